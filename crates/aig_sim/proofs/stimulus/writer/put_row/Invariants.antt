use Rattle.std.proofs.Common.{◌≡◌, ◌-◌, ◌≤◌, length, take, map, Ok}
use Rattle.aig_bytes.specs.Gathered.{Gathers}
use Rattle.aig_values.specs.Characters.{character}
use Rattle.aig_sim.proofs.stimulus.writer.put_row.Given as goal

abbrev pub invariant-loop-at : goal.invariant-loop-at
invariant-loop-at g l = record {
  inside : l.at ≤ length l.row;
  room : length l.piece ≡ 256;
  gathers : Gathers {T = Unit {0}} {E = Unit {0}} g.W.Write.written g.W.Write.failures l.initial.out l.out l.initial.block l.block
      (map character (take l.at l.row)) (Ok tt);
}

abbrev pub decreases-loop-at : goal.decreases-loop-at
decreases-loop-at g l = length l.row - l.at
