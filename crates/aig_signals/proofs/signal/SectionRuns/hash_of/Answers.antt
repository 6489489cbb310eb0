use Rattle.std.proofs.Common.{List, ℕ, ◌++◌, get_or, ap, ◌∙◌}
use Rattle.aig_signals.specs.Names.{first_name}
use Rattle.aig_signals.proofs.SignalLemmas.{hash_more}
use Rattle.aig_signals.proofs.signal.SectionRuns.hash_of.Goals as goal

pub loop-run-preserved : goal.loop-run-preserved
loop-run-preserved c =
    hash_more (λ run. first_name c.args.self.now.circuit.now c.args.self.now.kind run.first) c.args.self.now.runs.now c.loop-run.run-index (record { first = 0; end = 0 }) c.loop-run.hash _ _
    c.loop-run-test.true
    (c.as_slice.ensures.value ∙ c.in_ok-push_first_name.ensures
    ∙ ap (λ (xs : List ℕ). xs ++ first_name c.args.self.now.circuit.now c.args.self.now.kind (get_or c.args.self.now.runs.now c.loop-run.run-index (record { first = 0; end = 0 })).first) c.clear.ensures.items)
    c.mix.ensures c.loop-run.invariant
