use Rattle.aig_cut.specs.CutOf.{cut_gates, gate_inputs}
use Rattle.aig_cut.specs.state.Marks.{marked}
use Rattle.aig_cut.proofs.Walks.{HasCut}
use Rattle.aig_cut.proofs.parts.cut_gates.Given as goal

abbrev pub invariant-loop-gate : goal.invariant-loop-gate
invariant-loop-gate l =
    HasCut (cut_gates (marked l.marks)) (gate_inputs (marked l.marks)) l.initial.inputs.next l.initial.inputs.literals
    l.gates l.gate-index l.inputs.next l.cut l.inputs.literals
