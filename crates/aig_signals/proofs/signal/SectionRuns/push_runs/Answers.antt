use Rattle.std.specs.Str.{bytes_eq}
use Rattle.indexmap.specs.IndexMap.{get_by}
use Rattle.aig_signals.specs.Signals.{signal_of}
use Rattle.aig_signals.proofs.SignalLemmas.{run_named, mapped_more}
use Rattle.aig_signals.proofs.signal.SectionRuns.push_runs.Goals as goal

pub loop-run-preserved : goal.loop-run-preserved
loop-run-preserved c =
    let raw = c.args.self.now.circuit.now in
    let runs = c.args.self.now.runs.now in
    mapped_more (signal_of raw c.args.self.now.kind runs) c.args.signals.now.items c.loop-run.signals.items c.push.new.self.items runs
    c.loop-run.run-index _ _ c.loop-run-test.true
    (run_named raw c.args.self.now.kind runs _ (λ x. get_by (λ key. bytes_eq x key.items) c.args.known.now) _ c.requires.known c.in_ok-name_of.ensures)
    c.in_ok-push.ensures.items c.loop-run.invariant
