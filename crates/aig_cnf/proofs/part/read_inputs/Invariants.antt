use Rattle.std.proofs.Common.{◌≡◌, ℕ, map, take}
use Rattle.aig_parts.specs.Literal.{variable}
use Rattle.aig_base.specs.Part.{picked}
use Rattle.aig_cnf.specs.ReadFormula.{marked}
use Rattle.aig_cnf.proofs.part.read_inputs.Given as goal

abbrev pub invariant-loop-input : goal.invariant-loop-input
invariant-loop-input l =
    l.found.items ≡ picked (map (λ (x : ℕ). marked l.marks (variable x)) (take l.input-index l.inputs)) (take l.input-index l.inputs)
