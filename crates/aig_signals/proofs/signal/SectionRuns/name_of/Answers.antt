use Rattle.std.proofs.Common.{◌≡◌, ◌++◌, ◌-◌, List, ℕ, ap, ◌∙◌}
use Rattle.std.specs.Str.{bytes_eq}
use Rattle.std.proofs.lemmas.Result.{IfOk-weaker}
use Rattle.indexmap.specs.IndexMap.{get_by}
use Rattle.aig_signals.specs.Names.{first_name}
use Rattle.aig_signals.specs.Signals.{first_bit}
use Rattle.aig_signals.specs.state.Seen.{is_once}
use Rattle.aig_signals.proofs.SignalLemmas.{named_vector, named_alone}
use Rattle.aig_signals.proofs.signal.SectionRuns.name_of.Goals as goal

pub returns-in-Some : goal.returns-in-Some
returns-in-Some c =
    let run = c.args.run in
    let first = first_name c.args.self.now.circuit.now c.args.self.now.kind run.first in
    let text : c.as_slice.result.now ≡ first =
    c.as_slice.ensures.value ∙ c.in_ok-push_first_name.ensures ∙ ap (λ (xs : List ℕ). xs ++ first) c.new-name.ensures.items in
    IfOk-weaker c.vector_name.result _ _
    (λ name n. named_vector first (run.end - run.first) (λ x. is_once (get_by (λ key. bytes_eq x key.items) c.args.known.now))
    _ name _ (c.in-Some.ensures.bit ∙ ap (λ (xs : List ℕ). first_bit xs (run.end - run.first)) text) c.is_only-only.ensures n)
    c.vector_name.ensures

pub returns : goal.returns
returns c =
    let run = c.args.run in
    let first = first_name c.args.self.now.circuit.now c.args.self.now.kind run.first in
    let own = c.in_ok-push_first_name.ensures ∙ ap (λ (xs : List ℕ). xs ++ first) c.new-name.ensures.items in
    let text : c.as_slice.result.now ≡ first = c.as_slice.ensures.value ∙ own in
    named_alone first (run.end - run.first) (λ x. is_once (get_by (λ key. bytes_eq x key.items) c.args.known.now)) _
    (c.in_default.ensures.bit ∙ ap (λ (xs : List ℕ). first_bit xs (run.end - run.first)) text) (c.from_vec.ensures ∙ own)
