use Rattle.std.proofs.Common.{◌≡◌, ◌++◌, drop}
use Rattle.aig_cut.specs.CutOf.{cut_constraints}
use Rattle.aig_cut.specs.state.Marks.{marked}
use Rattle.aig_cut.proofs.parts.cut_constraints.Given as goal

abbrev pub invariant-loop-position : goal.invariant-loop-position
invariant-loop-position l =
    cut_constraints (marked l.marks) 0 l.constraints
    ≡ l.cut ++ cut_constraints (marked l.marks) l.position (drop l.position l.constraints)
