use Rattle.std.proofs.Common.{arith, ◌++◌, take}
use Rattle.aig_bytes.proofs.BlockLemmas.{split_more, forwarded_more}
use Rattle.aig_bytes.proofs.buffered.Buffered.forward.Goals as goal

pub loop-self-preserved : goal.loop-self-preserved
loop-self-preserved g c =
    let i = c.loop-self.invariant in
    let h = c.in_ok-count.ensures in
    record {
      front = i.front ++ take c.in_ok-count.count c.loop-self.self-inside.held;
      split = rw c.skip.ensures (split_more _ i.front _ c.in_ok-count.count i.split);
      forwarded = forwarded_more _ _ _ i.front _ i.forwarded (rw (← c.as_slice.ensures) h.taken);
      count = omega (arith, i.count, h.count);
      broken = i.broken;
      failures = i.failures;
    }
