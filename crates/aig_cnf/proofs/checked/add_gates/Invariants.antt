use Rattle.std.proofs.Common.{take}
use Rattle.std.specs.List.{flat_map}
use Rattle.aig_cnf.specs.Formula.{gate_clauses}
use Rattle.aig_cnf.specs.state.Added.{Adds, Numbers}
use Rattle.aig_cnf.proofs.checked.add_gates.Given as goal

abbrev pub invariant-loop-gate : goal.invariant-loop-gate
invariant-loop-gate l =
    Adds (flat_map gate_clauses (take l.gate-index l.gates)) l.initial.refutation.clauses l.refutation.clauses
    × Numbers (flat_map gate_clauses (take l.gate-index l.gates)) l.initial.refutation l.refutation
