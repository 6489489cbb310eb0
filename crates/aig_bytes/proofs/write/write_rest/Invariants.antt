use Rattle.std.proofs.Common.{length, ◌-◌, ◌≤◌, take, Ok}
use Rattle.aig_bytes.specs.Bytes.{Writes}
use Rattle.aig_bytes.proofs.write.write_rest.Given as goal

abbrev pub invariant-loop-at : goal.invariant-loop-at
invariant-loop-at g l = record {
  inside : l.at ≤ length l.bytes;
  writes : Writes {T = Unit {0}} {E = Unit {0}} g.W.Write.written g.W.Write.failures l.initial.out l.out (take l.at l.bytes) (Ok tt);
}

abbrev pub decreases-loop-at : goal.decreases-loop-at
decreases-loop-at g l = length l.bytes - l.at
