use Rattle.std.proofs.Common.{◌≡◌, ℕ, List, [], ◌∷◌, ◌++◌, subst, arith}
use Rattle.aig_signals.specs.Property.{IsNumbered}
use Rattle.aig_program.proofs.TextPositions.{first_all, first_more, pushed}
use Rattle.aig_program.proofs.chosen.properties.numbers_in.Goals as goal

pub loop-text-preserved : goal.loop-text-preserved
loop-text-preserved c =
    let old = c.loop-text.positions.items in
    let items : c.push.new.self.items ≡ old ++ c.in-Some.position ∷ [] =
    pushed _ _ _ _ _ c.push.ensures.items c.is_err.ensures.negation c.if-is_err.false in
    let named = subst (λ (text : List ℕ). IsNumbered c.args.section text c.in-Some.position) c.as_bytes.ensures.value
    c.in-Some.ensures.some in
    rw items (first_more (λ text. text.now) (IsNumbered c.args.section) c.args.texts.now old c.loop-text.text-index
    c.in-Some.position _ c.loop-text-test.true named c.loop-text.invariant)

pub returns : goal.returns
returns c = record {
  numbered =
      first_all (λ text. text.now) (IsNumbered c.args.section) c.args.texts.now c.loop-text.positions.items
      c.loop-text.text-index (omega (arith, c.loop-text-test.false, c.loop-text.auto.text-index-end)) c.loop-text.invariant;
}
