use Rattle.std.proofs.Common.{◌∷◌, ◌++◌, [], ◌∙◌, List, map, sym, ap, ap₂}
use Rattle.aig_parts.specs.declared.gate.Gate.{Gate}
use Rattle.aig_base.proofs.renumbered.Renumberings.{ordered_some, ordered_none}
use Rattle.aig_unroll.specs.state.FrameTable.{numbered_gate}
use Rattle.aig_unroll.proofs.NumberedGates.{found_listed, gate_more}
use Rattle.aig_unroll.proofs.unrolling.sections.numbered_gates.Goals.{in-Some+in_ok-push, in_default}
use Rattle.aig_unroll.proofs.unrolling.sections.numbered_gates.Goals as goal

pub gate-requires-clause-listed : goal.gate-requires-clause-listed
gate-requires-clause-listed c =
    found_listed c.args.circuit.now c.args.numbers.now c.requires.listed _ c.in-Some.gate (sym c.in-Some.ensures.is)

pub loop-variable-preserved : goal.loop-variable-preserved
loop-variable-preserved c = elim c.match-gate_of.branch [
  | in-Some+in_ok-push w ↦
      w.gates-is ∙ w.in_ok-push.ensures.ok
      ∙ ap₂ (λ (gs : List Gate) (g : Gate). gs ++ g ∷ []) c.loop-variable.invariant w.gate.ensures
      ∙ sym (gate_more c.args.numbers.now _ w.in-Some.gate)
      ∙ ap (map (numbered_gate c.args.numbers.now)) (sym (ordered_some c.args.circuit.now c.args.order.now
      c.loop-variable.variable-index w.in-Some.gate c.loop-variable-test.true (sym w.in-Some.ensures.is)))
  | in_default w ↦
      w.gates-is ∙ c.loop-variable.invariant
      ∙ ap (map (numbered_gate c.args.numbers.now)) (sym (ordered_none c.args.circuit.now c.args.order.now
      c.loop-variable.variable-index c.loop-variable-test.true (sym c.gate_of.ensures.is ∙ w.in_default.is)))
]
