use Rattle.std.proofs.Common.{◌≡◌, ◌≤◌, ◌+◌, ◌∷◌, ◌++◌, [], ℕ, Some, true, false, slice_get, ap, sym, subst, ◌∙◌, refl}
use Rattle.std.proofs.Common.{arith}
use Rattle.std.proofs.lemmas.Option.{slice_get_read}
use Rattle.aig_causes.specs.Explanation.{AreNamedBetween, IsNamed}
use Rattle.aig_causes.proofs.LatchSets.{between_more, between_on}
use Rattle.aig_causes.proofs.latch_set.LatchSet.between.Goals as goal
use Rattle.aig_causes.proofs.latch_set.LatchSet.between.Goals.{then-index+in_ok-push, else-index}

pub loop-position-preserved : goal.loop-position-preserved
loop-position-preserved c =
    let flags = c.args.self.now.flags.items in
    let place = c.loop-position.position in
    let old = c.loop-position.latches.items in
    let here : slice_get flags place ≡ Some c.index.result.now =
    slice_get_read flags _ place c.index.result.now refl (omega (arith, c.loop-position-test.true, c.requires.end)) c.index.ensures in
    let up : c.args.first ≤ place = omega (arith, c.loop-position.auto.position) in
    elim c.if-index.branch [
      | then-index+in_ok-push w ↦
          let items : c.if-index.latches.items ≡ old ++ place ∷ [] = cc (w.in_ok-push.ensures.items) in
          subst (AreNamedBetween flags c.args.first (place + 1)) (sym items)
          (between_more flags c.args.first place old up c.loop-position.invariant (here ∙ ap Some w.if-index.true))
      | else-index w ↦
          let none : IsNamed flags place → ⊥ = λ h. let e : false ≡ true = cc in cc in
          let items : c.if-index.latches.items ≡ old = cc in
          subst (AreNamedBetween flags c.args.first (place + 1)) (sym items)
          (between_on flags c.args.first place old up c.loop-position.invariant none)
    ]

pub returns : goal.returns
returns c =
    let end : c.loop-position.position ≡ c.args.end = omega arith in
    subst (λ (k : ℕ). AreNamedBetween c.args.self.now.flags.items c.args.first k c.loop-position.latches.items) end
    c.loop-position.invariant
