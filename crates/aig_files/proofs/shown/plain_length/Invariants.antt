use Rattle.std.proofs.Common.{◌-◌, ◌≤◌, length, take, All, IsTrue}
use Rattle.aig_files.specs.Shown.{is_plain}
use Rattle.aig_files.proofs.shown.plain_length.Given as goal

abbrev pub invariant-loop-count : goal.invariant-loop-count
invariant-loop-count l = record {
  bound : l.count ≤ length l.bytes;
  plain : All (λ b. IsTrue (is_plain b)) (take l.count l.bytes);
}

abbrev pub decreases-loop-count : goal.decreases-loop-count
decreases-loop-count l = length l.bytes - l.count
