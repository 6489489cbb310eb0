use Rattle.std.proofs.Common.{◌++◌}
use Rattle.aig_bytes.specs.Bytes.{moved}
use Rattle.aig_bytes.proofs.BlockLemmas.{forwarded_more, straight_on}
use Rattle.aig_bytes.proofs.buffered.Buffered.take.Goals as goal

pub returns-then-bytes-ge-LARGE-clause-forwarded : goal.returns-then-bytes-ge-LARGE-clause-forwarded
returns-then-bytes-ge-LARGE-clause-forwarded g c =
    let h = rw (← c.self.view_is) at c.in_ok-forward.ensures.forwarded in
    let none = rw (← c.self.view_is) at c.in_ok-forward.ensures.all in
    let taken = moved c.write.result c.args.bytes.now in
    record {
      front = h.front ++ taken;
      all = straight_on _ h.front _ taken h.all none;
      forwarded = forwarded_more _ _ _ h.front taken h.forwarded c.write.ensures.taken;
    }
