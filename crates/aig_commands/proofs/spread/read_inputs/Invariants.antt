use Rattle.std.proofs.Common.{◌≡◌, ℕ, take, map}
use Rattle.aig_cnf.specs.ReadFormula.{marked}
use Rattle.aig_parts.specs.Literal.{variable}
use Rattle.aig_commands.proofs.spread.read_inputs.Given as goal

abbrev pub invariant-loop-input : goal.invariant-loop-input
invariant-loop-input l = l.read.items
    ≡ map (λ (i : ℕ). marked l.marks (variable i)) (take l.input-index l.circuit.inputs)
