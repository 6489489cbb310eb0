use Rattle.std.proofs.Common.{◌∙◌, List, ap, arith}
use Rattle.std.specs.Str.{bytes_eq}
use Rattle.indexmap.specs.IndexMap.{get_by}
use Rattle.aig_signals.specs.declared.signal.Signal.{Signal}
use Rattle.aig_signals.specs.state.Called.{or_found}
use Rattle.aig_signals.proofs.CalledLemmas.{found_end, found_step, literals_named, signals_end, signals_split}
use Rattle.aig_signals.proofs.RunLemmas.{signal_at}
use Rattle.aig_signals.proofs.called.table.note_signals.Goals as goal

pub note_signal-requires-clause-ordered : goal.note_signal-requires-clause-ordered
note_signal-requires-clause-ordered c =
    let there = signal_at c.args.circuit.now c.args.signals.now c.loop-signal.signal-index c.signal-item.result c.requires
    c.loop-signal-test.true c.signal-item.is in
    omega (arith, there.0)

pub note_signal-requires-clause-within : goal.note_signal-requires-clause-within
note_signal-requires-clause-within c =
    let there = signal_at c.args.circuit.now c.args.signals.now c.loop-signal.signal-index c.signal-item.result c.requires
    c.loop-signal-test.true c.signal-item.is in
    there.1

pub loop-signal-preserved : goal.loop-signal-preserved
loop-signal-preserved c x =
    found_step _ _ _ _ _ _ _
    (signals_split c.args.circuit.now x c.args.signals.now c.loop-signal.signal-index c.signal-item.result c.loop-signal-test.true
    c.signal-item.is)
    (c.in_ok-note_signal.ensures x) (c.loop-signal.invariant x)

pub returns : goal.returns
returns c x =
    found_end _ _ _ _ (signals_end c.args.circuit.now x c.args.signals.now c.loop-signal.signal-index c.loop-signal-test.false)
    (c.loop-signal.invariant x)
    ∙ ap (λ (ss : List Signal). or_found (literals_named c.args.circuit.now x ss) (get_by (λ key. bytes_eq x key.items) c.args.table.now))
    c.requires
