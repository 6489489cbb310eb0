use Rattle.std.proofs.Common.{◌+◌, take}
use Rattle.std.specs.List.{list_any}
use Rattle.aig_cnf.specs.state.Cones.{AreMarks}
use Rattle.aig_cnf.proofs.ConeLemmas.{has_variable}
use Rattle.aig_cnf.proofs.cone.marks_of.Given as goal

abbrev pub invariant-loop-literal : goal.invariant-loop-literal
invariant-loop-literal l =
    AreMarks (l.max_var + 1) (λ v. list_any (has_variable v) (take l.literal-index l.literals)) l.marks.items
