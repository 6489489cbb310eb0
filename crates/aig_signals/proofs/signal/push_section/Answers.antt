use Rattle.std.proofs.Common.{◌++◌, ◌<◌, ◌≤◌, List, ap, ◌∙◌, arith}
use Rattle.std.proofs.lemmas.Result.{on_ok_weaker}
use Rattle.std.proofs.lemmas.List.Elements.{All-weaker}
use Rattle.aig_signals.specs.declared.run.Run.{Run}
use Rattle.aig_signals.specs.declared.signal.Signal.{Signal}
use Rattle.aig_signals.proofs.RunLemmas.{runs_some}
use Rattle.aig_signals.proofs.SignalLemmas.{section_is}
use Rattle.aig_signals.proofs.signal.push_section.Goals as goal

pub names_seen-requires : goal.names_seen-requires
names_seen-requires c =
    All-weaker (λ (r : Run). r.first < r.end) (λ (r : Run). r.first ≤ r.end) (λ r h. omega (arith, h)) c.as_slice.result.now
    (runs_some c.args.circuit.now c.args.kind c.as_slice.result.now (c.as_slice.ensures.value ∙ c.in_ok-runs.ensures))

pub push_runs-requires-clause-some : goal.push_runs-requires-clause-some
push_runs-requires-clause-some c =
    runs_some c.args.circuit.now c.args.kind c.as_slice.result.now (c.as_slice.ensures.value ∙ c.in_ok-runs.ensures)

pub returns : goal.returns
returns c =
    on_ok_weaker c.push_runs.result
    (λ e. e ∙ ap (λ (ss : List Signal). c.args.signals.now.items ++ ss)
    (section_is c.args.circuit.now c.args.kind c.as_slice.result.now (c.as_slice.ensures.value ∙ c.in_ok-runs.ensures)))
    c.push_runs.ensures
