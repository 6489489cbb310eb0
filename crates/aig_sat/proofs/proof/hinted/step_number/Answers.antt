use Rattle.std.proofs.Common.{◌≡◌, ◌∙◌, ◌++◌, ◌∷◌, [], ℕ, List, Option, refl, slice_get, subst, rules}
use Rattle.std.specs.Prelude.{IfSome}
use Rattle.std.specs.Fmt.{decimal}
use Rattle.std.proofs.lemmas.List.{append-nil}
use Rattle.aig_sat.specs.proof.Steps.{text_to_come}
use Rattle.aig_sat.proofs.models.ModelLemmas.{passed_fault}
use Rattle.aig_sat.proofs.reading.HintedRefusals.{number_goes_on, number_unfinished}
use Rattle.aig_sat.proofs.reading.TakingLemmas.{before_none, gap_whole, nothing_shown, text_as, text_at_end, text_then}
use Rattle.aig_sat.proofs.proof.hinted.step_number.Goals as goal

pub returns-in-None-clause-none : goal.returns-in-None-clause-none
returns-in-None-clause-none g c = λ is.
    let (xs, leads, took) = c.in_ok-skip_gap.ensures.gap in (
      xs,
      gap_whole xs leads,
      text_as (append-nil xs) (text_then took c.in_ok-peek.ensures.shows.text),
      text_at_end c.peek.new.self (g.R.Read.left c.peek.new.reader)
          (nothing_shown c.peek.new.self.waiting (c.in_ok-peek.ensures.shows.next ∙ c.in-None.is)) (c.in_ok-peek.ensures.shows.none c.in-None.is),
    )

pub returns-in_ok-word_number-in-Some-clause-number : goal.returns-in_ok-word_number-in-Some-clause-number
returns-in_ok-word_number-in-Some-clause-number g c =
    let (xs, leads, took) = c.in_ok-skip_gap.ensures.gap in
    let e = c.in_ok-word_number-in-Some.ensures in
    let n = c.in_ok-word_number-in-Some.field-0.value in
    let b = c.word_number.new.bytes.previous in (
      xs ++ (decimal n ++ b ∷ []),
      (e.small, e.space, (xs, gap_whole xs leads, refl)),
      text_then took (text_then c.in_ok-peek.ensures.shows.text e.number),
    )

pub returns-in_err-skip_gap-clause-refused : goal.returns-in_err-skip_gap-clause-refused
returns-in_err-skip_gap-clause-refused g c = record {
  count = search rules;
  refused = λ at is.
      number_unfinished (text_to_come c.args.bytes.now (g.R.Read.left c.args.reader.now)) c.args.bytes.now.previous
      (c.skip_gap.ensures.refused.refused at (passed_fault c.skip_gap.result c.from_residual.result c.in_err-skip_gap.field-0.0 _
      c.in_err-skip_gap.was c.from_residual.ensures.1 is));
}

pub returns-in_err-word_number-in-Some-clause-refused : goal.returns-in_err-word_number-in-Some-clause-refused
returns-in_err-word_number-in-Some-clause-refused g c = record {
  count = search rules;
  refused = λ at is h.
      let left = g.R.Read.left in
      let (xs, leads, took) = c.in_ok-skip_gap.ensures.gap in
      let skipped : Option (List ℕ) = text_to_come c.skip_gap.new.bytes (left c.skip_gap.new.reader) in
      let seen : Option (List ℕ) = text_to_come c.peek.new.self (left c.peek.new.reader) in
      c.word_number.ensures.refused.refused at
      (passed_fault c.word_number.result c.from_residual-in_err-word_number-in-Some.result
      c.in_err-word_number-in-Some.field-0.0 _ c.in_err-word_number-in-Some.was
      c.from_residual-in_err-word_number-in-Some.ensures.1 is)
      (number_goes_on (text_to_come c.args.bytes.now (left c.args.reader.now)) skipped seen c.args.bytes.now.previous
      c.skip_gap.new.bytes.previous c.in-Some._first xs took.come took.previous (gap_whole xs leads)
      c.in_ok-skip_gap.ensures.whole (c.in_ok-peek.ensures.shows.text.come ∙ before_none seen)
      (subst (λ (o : Option ℕ). IfSome skipped (λ bytes. slice_get bytes 0 ≡ o)) c.in-Some.is c.in_ok-peek.ensures.shown) h);
}
