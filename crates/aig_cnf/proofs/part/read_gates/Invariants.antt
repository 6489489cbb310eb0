use Rattle.std.proofs.Common.{◌≡◌, map, take}
use Rattle.aig_parts.specs.Literal.{variable}
use Rattle.aig_parts.specs.declared.gate.Gate.{Gate}
use Rattle.aig_base.specs.Part.{picked}
use Rattle.aig_cnf.specs.ReadFormula.{marked}
use Rattle.aig_cnf.proofs.part.read_gates.Given as goal

abbrev pub invariant-loop-gate : goal.invariant-loop-gate
invariant-loop-gate l =
    l.found.items ≡ picked (map (λ (x : Gate). marked l.marks (variable x.lhs)) (take l.gate-index l.gates)) (take l.gate-index l.gates)
