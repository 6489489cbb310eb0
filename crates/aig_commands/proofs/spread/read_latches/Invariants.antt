use Rattle.std.proofs.Common.{◌≡◌, take, map}
use Rattle.aig_cnf.specs.ReadFormula.{marked}
use Rattle.aig_parts.specs.Literal.{variable}
use Rattle.aig_parts.specs.declared.latch.Latch.{Latch}
use Rattle.aig_commands.proofs.spread.read_latches.Given as goal

abbrev pub invariant-loop-latch : goal.invariant-loop-latch
invariant-loop-latch l = l.read.items
    ≡ map (λ (x : Latch). marked l.marks (variable x.lit)) (take l.latch-index l.circuit.latches)
