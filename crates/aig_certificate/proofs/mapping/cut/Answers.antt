use Rattle.std.proofs.Common.{◌≡◌, ◌==◌, false, All, get_or, refl, subst, arith}
use Rattle.std.proofs.lemmas.Bool.{ne_eqb}
use Rattle.std.proofs.lemmas.List.{take_all}
use Rattle.std.proofs.lemmas.List.Elements.{All-more}
use Rattle.aig_certificate.proofs.MappingLines.{cut_here}
use Rattle.aig_certificate.proofs.mapping.cut.Goals as goal

pub loop-place-preserved : goal.loop-place-preserved
loop-place-preserved c =
    All-more (λ b. (b == c.args.byte) ≡ false) c.args.text.now c.loop-place.place 0 c.loop-place-test.true c.loop-place.invariant
    (ne_eqb (get_or c.args.text.now c.loop-place.place 0) c.args.byte c.if-text-place.false)

pub returns-then-text-place : goal.returns-then-text-place
returns-then-text-place c =
    cut_here c.args.byte c.args.text.now c.loop-place.place c.loop-place-test.true c.if-text-place.true c.loop-place.invariant

pub returns : goal.returns
returns c = (
  refl,
  subst (All (λ b. (b == c.args.byte) ≡ false))
      (take_all c.loop-place.place c.args.text.now (omega (arith, c.loop-place-test.false))) c.loop-place.invariant,
)
