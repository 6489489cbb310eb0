use Rattle.aig_signals.proofs.called.words.keep_all.Goals as goal

pub loop-wanted-init : goal.loop-wanted-init
loop-wanted-init c raw known before = before

pub loop-wanted-preserved : goal.loop-wanted-preserved
loop-wanted-preserved c raw known before =
    c.in_ok-keep_bits-2.ensures raw known (c.in_ok-keep_bits.ensures raw known (c.loop-wanted.invariant raw known before))

pub returns : goal.returns
returns c raw known before = c.loop-wanted.invariant raw known before
