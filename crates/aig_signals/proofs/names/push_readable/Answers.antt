use Rattle.aig_signals.proofs.NameLemmas.{readable_more}
use Rattle.aig_signals.proofs.names.push_readable.Goals as goal

pub loop-byte-preserved : goal.loop-byte-preserved
loop-byte-preserved c =
    readable_more c.args.text.now.items c.loop-byte.text.items c.push.new.self.items c.args.word.now c.loop-byte.byte-index _
    c.loop-byte-test.true c.readable_byte.ensures c.in_ok-push.ensures.items c.loop-byte.invariant
