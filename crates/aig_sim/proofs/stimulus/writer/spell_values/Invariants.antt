use Rattle.std.proofs.Common.{◌≡◌, take, map}
use Rattle.aig_values.specs.Characters.{character}
use Rattle.aig_sim.proofs.stimulus.writer.spell_values.Given as goal

abbrev pub invariant-loop-place : goal.invariant-loop-place
invariant-loop-place l = take l.place l.text ≡ map character (take l.place l.values)
