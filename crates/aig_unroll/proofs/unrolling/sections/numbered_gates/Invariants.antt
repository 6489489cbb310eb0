use Rattle.std.proofs.Common.{◌≡◌, map, take}
use Rattle.aig_base.specs.Renumbered.{ordered_gates}
use Rattle.aig_unroll.specs.state.FrameTable.{numbered_gate}
use Rattle.aig_unroll.proofs.unrolling.sections.numbered_gates.Given as goal

abbrev pub invariant-loop-variable : goal.invariant-loop-variable
invariant-loop-variable l =
    l.gates ≡ map (numbered_gate l.numbers) (ordered_gates l.circuit (take l.variable-index l.order))
