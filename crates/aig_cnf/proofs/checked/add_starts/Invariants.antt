use Rattle.std.proofs.Common.{take}
use Rattle.std.specs.List.{flat_map}
use Rattle.aig_cnf.specs.Formula.{implies}
use Rattle.aig_cnf.specs.state.Added.{Adds, Numbers}
use Rattle.aig_cnf.proofs.checked.add_starts.Given as goal

abbrev pub invariant-loop-bad : goal.invariant-loop-bad
invariant-loop-bad l =
    Adds (flat_map (implies l.starts) (take l.bad-index l.earlier)) l.initial.refutation.clauses l.refutation.clauses
    × Numbers (flat_map (implies l.starts) (take l.bad-index l.earlier)) l.initial.refutation l.refutation
