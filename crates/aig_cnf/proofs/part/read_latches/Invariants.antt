use Rattle.std.proofs.Common.{◌≡◌, map, take}
use Rattle.aig_parts.specs.Literal.{variable}
use Rattle.aig_parts.specs.declared.latch.Latch.{Latch}
use Rattle.aig_base.specs.Part.{picked}
use Rattle.aig_cnf.specs.ReadFormula.{marked}
use Rattle.aig_cnf.proofs.part.read_latches.Given as goal

abbrev pub invariant-loop-latch : goal.invariant-loop-latch
invariant-loop-latch l =
    l.found.items ≡ picked (map (λ (x : Latch). marked l.marks (variable x.lit)) (take l.latch-index l.latches)) (take l.latch-index l.latches)
