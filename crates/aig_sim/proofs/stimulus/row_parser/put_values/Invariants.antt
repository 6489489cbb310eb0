use Rattle.std.proofs.Common.{◌≡◌, take, map}
use Rattle.aig_values.specs.Characters.{character}
use Rattle.aig_sim.proofs.stimulus.row_parser.put_values.Given as goal

abbrev pub invariant-loop-place : goal.invariant-loop-place
invariant-loop-place l = map character (take l.place l.values) ≡ take l.place l.text
