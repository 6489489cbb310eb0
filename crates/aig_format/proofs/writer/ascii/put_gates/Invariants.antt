use Rattle.std.proofs.Common.{length, ◌-◌, ◌≤◌, take, Ok}
use Rattle.std.specs.List.{flat_map}
use Rattle.aig_bytes.specs.Gathered.{Gathers}
use Rattle.aig_format.specs.Spelling.{gate_line}
use Rattle.aig_format.proofs.writer.ascii.put_gates.Given as goal

abbrev pub invariant-loop-at : goal.invariant-loop-at
invariant-loop-at g l = record {
  inside : l.at ≤ length l.gates;
  gathered : Gathers {T = Unit {0}} {E = Unit {0}} g.W.Write.written g.W.Write.failures l.fn.out l.out l.fn.block l.block
      (flat_map gate_line (take l.at l.fn.gates)) (Ok tt);
}

abbrev pub decreases-loop-at : goal.decreases-loop-at
decreases-loop-at g l = length l.gates - l.at
