use Rattle.aig_cut.specs.CutOf.{cut_latches, latch_inputs}
use Rattle.aig_cut.specs.state.Marks.{marked}
use Rattle.aig_cut.proofs.Walks.{HasCut}
use Rattle.aig_cut.proofs.parts.cut_latches.Given as goal

abbrev pub invariant-loop-latch : goal.invariant-loop-latch
invariant-loop-latch l =
    HasCut (cut_latches (marked l.marks)) (latch_inputs (marked l.marks)) l.initial.inputs.next l.initial.inputs.literals
    l.latches l.latch-index l.inputs.next l.cut l.inputs.literals
