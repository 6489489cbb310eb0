use Rattle.std.proofs.Common.{◌≢◌, ◌∙◌, ◌++◌, ◌∷◌, [], ℕ, ap, arith}
use Rattle.std.proofs.lemmas.List.Elements.{All-push}
use Rattle.aig_sat.specs.proof.state.Taking.{listed}
use Rattle.aig_sat.proofs.reading.TakingLemmas.{text_as, text_then}
use Rattle.aig_sat.proofs.proof.text.skip_line.Goals as goal

pub returns-then-byte-eq10-clause-line : goal.returns-then-byte-eq10-clause-line
returns-then-byte-eq10-clause-line g c =
    let (line, all, took) = c.loop-byte.invariant.line in (
      line,
      all,
      text_then took (text_as (ap listed c.in-Some.is ∙ ap (λ (b : ℕ). b ∷ []) c.if-byte-eq10.true)
          c.in_ok-byte.ensures.text.taken),
    )

pub loop-byte-preserved : goal.loop-byte-preserved
loop-byte-preserved g c =
    let i = c.loop-byte.invariant in
    let (line, all, took) = i.line in
    record {
      count = omega (arith, i.count, c.in_ok-byte.ensures.text.count);
      never_more = omega (arith, i.never_more, c.in_ok-byte.ensures.text.never_more);
      line = (
        line ++ c.in-Some.byte ∷ [],
        All-push (λ (b : ℕ). b ≢ 10) line c.in-Some.byte all c.if-byte-eq10.false,
        text_then took (text_as (ap listed c.in-Some.is) c.in_ok-byte.ensures.text.taken),
      );
    }
