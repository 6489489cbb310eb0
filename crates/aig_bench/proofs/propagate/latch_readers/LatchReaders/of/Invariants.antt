use Rattle.std.proofs.Common.{◌*◌, ◌<◌, length}
use Rattle.aig_bench.specs.state.Latches.{HaveBits}
use Rattle.aig_bench.proofs.carries.LatchChains.{AreChainsSoFar}
use Rattle.aig_bench.proofs.propagate.latch_readers.LatchReaders.of.Given as goal

abbrev pub invariant-loop-position : goal.invariant-loop-position
invariant-loop-position l = record {
  chains : AreChainsSoFar l.circuit l.position l.last.items l.before.items;
  read : HaveBits l.last.items l.read.words.items;
  room : l.circuit.max_var < 64 * length l.read.words.items;
}
