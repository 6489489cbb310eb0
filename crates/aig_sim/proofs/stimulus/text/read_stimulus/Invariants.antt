use Rattle.std.proofs.Common.{◌≡◌, ◌≤◌, ◌-◌, take, length}
use Rattle.aig_sim.specs.RowParser.{HasRead}
use Rattle.aig_sim.proofs.stimulus.text.read_stimulus.Given as goal

abbrev pub invariant-loop-at : goal.invariant-loop-at
invariant-loop-at l = record {
  inside : l.at ≤ length l.bytes;
  line_width : l.line.width ≡ l.width;
  width : l.stimulus.width ≡ l.width;
  limit : length l.stimulus.rows ≤ 65536;
  has_read : HasRead l.width (take l.at l.bytes) l.stimulus.rows l.line.shape l.line.values;
}

abbrev pub decreases-loop-at : goal.decreases-loop-at
decreases-loop-at l = length l.bytes - l.at
