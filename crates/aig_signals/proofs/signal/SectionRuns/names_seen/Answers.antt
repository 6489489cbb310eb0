use Rattle.std.proofs.Common.{◌∙◌}
use Rattle.aig_signals.proofs.SignalLemmas.{run_seen}
use Rattle.aig_signals.proofs.signal.SectionRuns.names_seen.Goals as goal

pub loop-run-preserved : goal.loop-run-preserved
loop-run-preserved c = record {
  seen = λ x.
      run_seen c.args.self.now.circuit.now c.args.self.now.kind c.args.self.now.runs.now c.loop-run.run-index _ x _ _ _ _ _ c.loop-run-test.true
      c.as_slice.ensures.value c.in_ok-push_first_name.ensures c.clear.ensures.items (c.in_ok-see.ensures.noted x) (c.loop-run.invariant.seen x);
  hash = c.in_ok-see.ensures.hash ∙ c.loop-run.invariant.hash;
}
