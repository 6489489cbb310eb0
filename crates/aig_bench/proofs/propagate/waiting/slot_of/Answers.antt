use Rattle.std.proofs.Common.{◌∙◌, ap, sym, subst}
use Rattle.aig_parts.specs.declared.gate.Gate.{Gate}
use Rattle.aig_base.specs.Sections.{IsGate}
use Rattle.aig_base.proofs.circuits.Circuits.{gate_is}
use Rattle.aig_base.proofs.circuits.Gates.{same_gate}
use Rattle.aig_bench.specs.declared.propagate.waiting.EventSlot.{EventSlot}
use Rattle.aig_bench.proofs.propagate.waiting.slot_of.Goals as goal

pub returns-in-Some-clause-first : goal.returns-in-Some-clause-first
returns-in-Some-clause-first c q g at e =
    let (k, there, same) = c.in-Some.ensures.found in
    ap (λ (s : EventSlot). s.rhs0) c.idle.ensures
    ∙ ap (λ (x : Gate). x.rhs0) (same_gate c.args.circuit.now c.facts.ensures.sound k q c.in-Some.gate g there at (same ∙ sym e))

pub returns-in-Some-clause-second : goal.returns-in-Some-clause-second
returns-in-Some-clause-second c q g at e =
    let (k, there, same) = c.in-Some.ensures.found in
    ap (λ (s : EventSlot). s.rhs1) c.idle.ensures
    ∙ ap (λ (x : Gate). x.rhs1) (same_gate c.args.circuit.now c.facts.ensures.sound k q c.in-Some.gate g there at (same ∙ sym e))

pub returns-in-None-clause-first : goal.returns-in-None-clause-first
returns-in-None-clause-first c q g at e =
    absurd (c.in-None.ensures.none (subst (IsGate c.args.circuit.now) e (gate_is c.args.circuit.now q g at)))

pub returns-in-None-clause-second : goal.returns-in-None-clause-second
returns-in-None-clause-second c q g at e =
    absurd (c.in-None.ensures.none (subst (IsGate c.args.circuit.now) e (gate_is c.args.circuit.now q g at)))
