use Rattle.std.proofs.Common.{take}
use Rattle.std.specs.List.{flat_map}
use Rattle.aig_cnf.specs.state.Added.{Adds, Numbers}
use Rattle.aig_cnf.proofs.FormulaText.{denied}
use Rattle.aig_cnf.proofs.checked.add_first_reached.Given as goal

abbrev pub invariant-loop-literal : goal.invariant-loop-literal
invariant-loop-literal l =
    Adds (flat_map denied (take l.literal-index l.earlier)) l.initial.refutation.clauses l.refutation.clauses
    × Numbers (flat_map denied (take l.literal-index l.earlier)) l.initial.refutation l.refutation
