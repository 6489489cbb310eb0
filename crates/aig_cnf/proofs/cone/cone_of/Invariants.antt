use Rattle.std.proofs.Common.{◌+◌, map, reverse}
use Rattle.aig_cnf.specs.state.Cones.{IsCone}
use Rattle.aig_cnf.proofs.cone.cone_of.Given as goal

abbrev pub invariant-loop-gate : goal.invariant-loop-gate
invariant-loop-gate l =
    IsCone (l.circuit.max_var + 1) l.literals (reverse (map (λ y. y.now) l.yielded)) l.marks.items l.found.items
