use Rattle.std.proofs.Common.{◌≡◌, Some, get_or, slice_get, inl, inr, ap, length, List, ℕ, true, refl, sym, ◌∙◌, subst, arith}
use Rattle.std.specs.Prelude.{nat_eq}
use Rattle.std.specs.Cmp.Lexicographic.{pointwise}
use Rattle.std.proofs.Math.Bool.{not}
use Rattle.std.proofs.lemmas.Bool.{cases_eq, false≢true}
use Rattle.std.proofs.lemmas.Option.{slice_get-get_or, slice_get_within}
use Rattle.aig_base.proofs.lists.Gets.{All-at, All-by_get, same_element}
use Rattle.aig_causes.specs.Causes.{moment}
use Rattle.aig_causes.specs.Explanation.{KeepsValue}
use Rattle.aig_causes.proofs.KeptLatches.{kept_by_tests}
use Rattle.aig_causes.proofs.kept.are_kept.Goals as goal

pub loop-position-preserved : goal.loop-position-preserved
loop-position-preserved g c = λ k p lt at.
    let latches = c.args.latches.now in
    let place = c.loop-position.position-index in
    let here = slice_get-get_or latches place 0 c.loop-position-test.true in
    elim (cases_eq k place) [
      | inl e ↦
          let same : get_or latches place 0 ≡ p =
          same_element latches place (get_or latches place 0) p here (subst (λ (j : ℕ). slice_get latches j ≡ Some p) e at) in
          subst (KeepsValue c.args.bench.now.pair.circuit (moment c.args.bench.now.pair c.args.frame)) same
          (c.keeps_value.ensures.0 c.if-not-keeps_value.false)
      | inr other ↦ c.loop-position.invariant k p (omega (arith, lt, other)) at
    ]

pub returns-then-not-keeps_value : goal.returns-then-not-keeps_value
returns-then-not-keeps_value g c = (
  λ h. absurd (false≢true h),
  λ kept.
      let P = KeepsValue c.args.bench.now.pair.circuit (moment c.args.bench.now.pair c.args.frame) in
      let latches = c.args.latches.now in
      let place = c.loop-position.position-index in
      let here = slice_get-get_or latches place 0 c.loop-position-test.true in
      let keeps = All-at P latches place (get_or latches place 0) kept.values here in
      absurd (false≢true (sym c.if-not-keeps_value.true ∙ c.keeps_value.ensures.1 keeps)),
)

pub returns : goal.returns
returns g c =
    let causes = c.args.causes.now in
    let latches = c.args.latches.now in
    let m = moment c.args.bench.now.pair c.args.frame in
    kept_by_tests c.args.bench.now.pair.circuit m latches causes c.is_empty.result c.ne.result true
    (c.is_empty.ensures ∙ ap (λ (xs : List ℕ). nat_eq (length xs) 0) c.inputs.ensures) c.if-not-is_empty.false
    (c.ne.ensures ∙ ap (λ (xs : List ℕ). not (pointwise nat_eq xs latches)) c.latches.ensures) c.if-ne.false (
      λ _. All-by_get (KeepsValue c.args.bench.now.pair.circuit m) latches (λ k p at.
          let lt = slice_get_within latches k p at in
          c.loop-position.invariant k p (omega (arith, lt, c.loop-position-test.false)) at),
      λ _. refl,
    )
