use Rattle.std.proofs.Common.{◌∙◌, ◌++◌, ◌∷◌, [], ℕ, sym, ap, subst}
use Rattle.aig_sat.specs.model.ModelText.{IsSpace}
use Rattle.aig_sat.proofs.reading.TakingLemmas.{gap_comment, gap_space, shown, text_as, text_step, text_then}
use Rattle.aig_sat.proofs.proof.text.skip_space.Goals as goal

pub returns-then-is_space-clause-gap : goal.returns-then-is_space-clause-gap
returns-then-is_space-clause-gap g c =
    let new = c.skip.new.self in
    let same = shown c.peek.new.self.waiting new.waiting c.in-Some.byte new.previous (c.in_ok-peek.ensures.shows.next ∙ c.in-Some.is)
    c.skip.ensures.taken in (
      new.previous ∷ [],
      gap_space (subst IsSpace (sym same) (c.is_space.ensures.0 c.if-is_space.true)),
      text_step c.args.bytes.now c.peek.new.self new _ _ c.skip.ensures.taken c.skip.ensures.ended c.in_ok-peek.ensures.shows.text,
    )

pub returns-then-is_at_line-clause-gap : goal.returns-then-is_at_line-clause-gap
returns-then-is_at_line-clause-gap g c =
    let mid = c.skip-then-is_at_line.new.self in
    let same = shown c.peek.new.self.waiting mid.waiting c.in-Some.byte mid.previous (c.in_ok-peek.ensures.shows.next ∙ c.in-Some.is)
    c.skip-then-is_at_line.ensures.taken in
    let (line, all, took) = c.in_ok-skip_line-in-Some.ensures.line in
    let first = text_step c.args.bytes.now c.peek.new.self mid _ _ c.skip-then-is_at_line.ensures.taken
    c.skip-then-is_at_line.ensures.ended c.in_ok-peek.ensures.shows.text in
    let whole = text_as (ap (λ (b : ℕ). b ∷ (line ++ 10 ∷ [])) (same ∙ c.if-byte-eq99.true)) (text_then first took) in
    let at_line = sym c.in_ok-peek.ensures.shows.text.previous ∙ c.is_at_line.ensures.0 c.if-is_at_line.true in
    (99 ∷ (line ++ 10 ∷ []), gap_comment line at_line all whole.previous, whole)
