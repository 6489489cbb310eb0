use Rattle.std.specs.Prelude.{IfSome}
use Rattle.aig_sat.specs.proof.Steps.{text_to_come}
use Rattle.aig_sat.proofs.models.ModelLemmas.{passed_fault}
use Rattle.aig_sat.proofs.reading.TextRefusals.{addition_goes_on, deletion_goes_on, deletion_refused, no_step}
use Rattle.std.proofs.Common.{◌∙◌, ◌++◌, ◌∷◌, [], ℕ, sym, ap, subst, Option, slice_get, ◌≡◌, rules}
use Rattle.std.proofs.lemmas.List.{append-nil}
use Rattle.aig_sat.specs.proof.state.Taking.{LeadsGap}
use Rattle.aig_sat.proofs.reading.TakingLemmas.{gap_whole, nothing_shown, shown, step_adds, step_deletes, text_as}
use Rattle.aig_sat.proofs.reading.TakingLemmas.{text_at_end, text_step, text_then}
use Rattle.aig_sat.proofs.proof.text.text_kind.Goals as goal

pub returns-then-byte-eq100-clause-kind : goal.returns-then-byte-eq100-clause-kind
returns-then-byte-eq100-clause-kind g c =
    let (xs, leads, took) = c.in_ok-skip_gap.ensures.gap in
    let mid = c.skip.new.self in
    let b = c.end_word.new.bytes.previous in
    let same = shown c.peek.new.self.waiting mid.waiting c.in-Some.byte mid.previous (c.in_ok-peek.ensures.shows.next ∙ c.in-Some.is)
    c.skip.ensures.taken in
    let one = text_step c.skip_gap.new.bytes c.peek.new.self mid _ _ c.skip.ensures.taken c.skip.ensures.ended
    c.in_ok-peek.ensures.shows.text in
    let letter = text_as (ap (λ (x : ℕ). x ∷ []) (same ∙ c.if-byte-eq100.true)) one in (
      xs ++ (100 ∷ (b ∷ [])),
      step_deletes xs leads c.in_ok-end_word-in-Some.ensures.space,
      text_then took (text_then letter c.in_ok-end_word-in-Some.ensures.taken),
    )

pub returns-in-None-clause-none : goal.returns-in-None-clause-none
returns-in-None-clause-none g c = λ is.
    let (xs, leads, took) = c.in_ok-skip_gap.ensures.gap in (
      xs,
      gap_whole xs leads,
      text_as (append-nil xs) (text_then took c.in_ok-peek.ensures.shows.text),
      text_at_end c.peek.new.self (g.R.Read.left c.peek.new.reader)
          (nothing_shown c.peek.new.self.waiting (c.in_ok-peek.ensures.shows.next ∙ c.in-None.is)) (c.in_ok-peek.ensures.shows.none c.in-None.is),
    )

pub returns-else-byte-eq100-clause-kind : goal.returns-else-byte-eq100-clause-kind
returns-else-byte-eq100-clause-kind g c =
    let (xs, leads, took) = c.in_ok-skip_gap.ensures.gap in (
      xs,
      step_adds xs (subst (λ (n : ℕ). LeadsGap c.args.bytes.now.previous n xs) (sym c.in_ok-peek.ensures.shows.text.previous) leads),
      text_as (append-nil xs) (text_then took c.in_ok-peek.ensures.shows.text),
    )

pub returns-in_err-skip_gap-clause-refused : goal.returns-in_err-skip_gap-clause-refused
returns-in_err-skip_gap-clause-refused g c = record {
  count = search rules;
  refused = λ at is f.
      no_step (text_to_come c.args.bytes.now (g.R.Read.left c.args.reader.now)) f c.args.bytes.now.previous (c.skip_gap.ensures.refused.refused at (passed_fault c.skip_gap.result c.from_residual.result c.in_err-skip_gap.field-0.0 _ c.in_err-skip_gap.was c.from_residual.ensures.1 is));
}

pub returns-in_err-end_word-in-Some-clause-refused : goal.returns-in_err-end_word-in-Some-clause-refused
returns-in_err-end_word-in-Some-clause-refused g c = record {
  count = search rules;
  refused = λ at is f.
      let (xs, leads, took) = c.in_ok-skip_gap.ensures.gap in
      let mid = c.skip.new.self in
      let same = shown c.peek.new.self.waiting mid.waiting c.in-Some.byte mid.previous (c.in_ok-peek.ensures.shows.next ∙ c.in-Some.is)
      c.skip.ensures.taken in
      let one = text_step c.skip_gap.new.bytes c.peek.new.self mid _ _ c.skip.ensures.taken c.skip.ensures.ended
      c.in_ok-peek.ensures.shows.text in
      let letter = text_as (ap (λ (x : ℕ). x ∷ []) (same ∙ c.if-byte-eq100.true)) one in
      deletion_refused (text_to_come c.args.bytes.now (g.R.Read.left c.args.reader.now)) (text_to_come c.skip_gap.new.bytes (g.R.Read.left c.skip_gap.new.reader)) f c.args.bytes.now.previous c.skip_gap.new.bytes.previous xs took.come took.previous (gap_whole xs leads)
      c.in_ok-skip_gap.ensures.whole (text_to_come mid (g.R.Read.left c.peek.new.reader)) letter.come
      (c.end_word.ensures.refused.refused at (passed_fault c.end_word.result c.from_residual-in_err-end_word-in-Some.result c.in_err-end_word-in-Some.field-0.0 _ c.in_err-end_word-in-Some.was c.from_residual-in_err-end_word-in-Some.ensures.1 is));
}

pub returns-then-byte-eq100-clause-goes_on : goal.returns-then-byte-eq100-clause-goes_on
returns-then-byte-eq100-clause-goes_on g c f =
    let (xs, leads, took) = c.in_ok-skip_gap.ensures.gap in
    let mid = c.skip.new.self in
    let same = shown c.peek.new.self.waiting mid.waiting c.in-Some.byte mid.previous (c.in_ok-peek.ensures.shows.next ∙ c.in-Some.is)
    c.skip.ensures.taken in
    let one = text_step c.skip_gap.new.bytes c.peek.new.self mid _ _ c.skip.ensures.taken c.skip.ensures.ended
    c.in_ok-peek.ensures.shows.text in
    let letter = text_as (ap (λ (x : ℕ). x ∷ []) (same ∙ c.if-byte-eq100.true)) one in
    deletion_goes_on (text_to_come c.args.bytes.now (g.R.Read.left c.args.reader.now)) (text_to_come c.skip_gap.new.bytes (g.R.Read.left c.skip_gap.new.reader)) f c.args.bytes.now.previous c.skip_gap.new.bytes.previous xs took.come took.previous (gap_whole xs leads)
    c.in_ok-skip_gap.ensures.whole (text_to_come c.end_word.new.bytes (g.R.Read.left c.end_word.new.reader)) c.end_word.new.bytes.previous
    (text_then letter c.in_ok-end_word-in-Some.ensures.taken).come

pub returns-else-byte-eq100-clause-goes_on : goal.returns-else-byte-eq100-clause-goes_on
returns-else-byte-eq100-clause-goes_on g c f =
    let (xs, leads, took) = c.in_ok-skip_gap.ensures.gap in
    addition_goes_on (text_to_come c.args.bytes.now (g.R.Read.left c.args.reader.now)) (text_to_come c.skip_gap.new.bytes (g.R.Read.left c.skip_gap.new.reader)) f c.args.bytes.now.previous c.skip_gap.new.bytes.previous xs took.come took.previous (gap_whole xs leads)
    c.in_ok-skip_gap.ensures.whole (text_to_come c.peek.new.self (g.R.Read.left c.peek.new.reader)) c.peek.new.self.previous c.in-Some.byte c.in_ok-peek.ensures.shows.text.come
    (subst (λ (o : Option ℕ). IfSome (text_to_come c.skip_gap.new.bytes (g.R.Read.left c.skip_gap.new.reader)) (λ bytes. slice_get bytes 0 ≡ o)) c.in-Some.is c.in_ok-peek.ensures.shown)
    c.if-byte-eq100.false
