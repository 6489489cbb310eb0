use Rattle.aig_sim.specs.Dump.{changed_lines}
use Rattle.aig_sim.proofs.DumpLemmas.{changed_from, changed_none}
use Rattle.aig_values.proofs.GatherLemmas.{partly_none, partly_same, partly_more, partly_stops, partly_done}
use Rattle.aig_sim.proofs.dumps.text.put_changes.Goals as goal

pub loop-signal-init : goal.loop-signal-init
loop-signal-init g c = partly_none c.args.out.now c.args.block.now (changed_lines 0 c.args.before.now c.args.after.now)

pub returns-in_err-put_change : goal.returns-in_err-put_change
returns-in_err-put_change g c =
    partly_stops _ (partly_same c.loop-signal.invariant
    (changed_from c.args.before.now c.args.after.now c.loop-signal.signal c.loop-signal-test.true c.requires.size))
    c.in_err-put_change.ensures c.from_residual.ensures.0

pub loop-signal-preserved : goal.loop-signal-preserved
loop-signal-preserved g c =
    partly_more (partly_same c.loop-signal.invariant
    (changed_from c.args.before.now c.args.after.now c.loop-signal.signal c.loop-signal-test.true c.requires.size))
    c.in_ok-put_change.ensures

pub returns : goal.returns
returns g c =
    partly_done (partly_same c.loop-signal.invariant
    (changed_none c.args.before.now c.args.after.now c.loop-signal.signal c.loop-signal-test.false c.requires.size))
