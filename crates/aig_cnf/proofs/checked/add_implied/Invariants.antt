use Rattle.std.proofs.Common.{take}
use Rattle.std.specs.List.{flat_map}
use Rattle.aig_cnf.specs.state.Added.{Adds, Numbers}
use Rattle.aig_cnf.proofs.FormulaText.{implied}
use Rattle.aig_cnf.proofs.checked.add_implied.Given as goal

abbrev pub invariant-loop-other : goal.invariant-loop-other
invariant-loop-other l =
    Adds (flat_map (implied l.literal) (take l.other-index l.implied)) l.initial.refutation.clauses l.refutation.clauses
    × Numbers (flat_map (implied l.literal) (take l.other-index l.implied)) l.initial.refutation l.refutation
