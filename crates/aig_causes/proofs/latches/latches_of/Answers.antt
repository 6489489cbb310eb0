use Rattle.std.proofs.Common.{◌≡◌, ◌∷◌, ◌++◌, [], inl, inr, ℕ, List, Contains, Some, slice_get, length, refl, sym}
use Rattle.std.proofs.Common.{subst, arith}
use Rattle.std.proofs.lemmas.Bool.{cases_eq}
use Rattle.std.proofs.lemmas.List.Elements.{All-contains, Contains-append_left, Contains-push, Contains-push_cases}
use Rattle.std.proofs.lemmas.Option.{slice_get_read, slice_get_within}
use Rattle.aig_base.specs.Sections.{IsLatchLiteral}
use Rattle.aig_base.proofs.lists.Gets.{Contains-from_get, get_from_Contains, same_element}
use Rattle.aig_causes.proofs.latches.latches_of.Goals as goal

pub returns-in-None-clause-none : goal.returns-in-None-clause-none
returns-in-None-clause-none c = λ all.
    let literals = c.args.literals.now in
    let here : slice_get literals c.loop-literal.literal-index ≡ Some c.literal-item.result =
    slice_get_read literals (length literals) c.loop-literal.literal-index c.literal-item.result refl c.loop-literal-test.true
    c.literal-item.is in
    c.in-None.ensures.none
    (All-contains (IsLatchLiteral c.args.circuit.now) literals c.literal-item.result all
    (Contains-from_get literals c.loop-literal.literal-index c.literal-item.result here))

pub loop-literal-preserved : goal.loop-literal-preserved
loop-literal-preserved c =
    let literals = c.args.literals.now in
    let place = c.loop-literal.literal-index in
    let literal = c.literal-item.result in
    let here : slice_get literals place ≡ Some literal =
    slice_get_read literals (length literals) place literal refl c.loop-literal-test.true c.literal-item.is in
    let inv = c.loop-literal.invariant in
    let old = c.loop-literal.latches.items in
    let position = c.in-Some.position in
    let items : c.push.new.self.items ≡ old ++ position ∷ [] = c.in_ok-push-in-Some.ensures.items in
    let found = c.in-Some.ensures.some in
    record {
      each = λ k y lt at. elim (cases_eq k place) [
        | inl e ↦
            let same : literal ≡ y =
            same_element literals place literal y here (subst (λ (j : ℕ). slice_get literals j ≡ Some y) e at) in (
              position,
              subst (λ (xs : List ℕ). Contains xs position) (sym items) (Contains-push old position),
              (found.0, found.1, cc (found.2, same)),
            )
        | inr other ↦
            let (p, has, is) = inv.each k y (omega (arith, lt, other)) at in (
              p,
              subst (λ (xs : List ℕ). Contains xs p) (sym items) (Contains-append_left old (position ∷ []) p has),
              is,
            )
      ];
      only = λ p has.
          elim (Contains-push_cases old position p (subst (λ (xs : List ℕ). Contains xs p) items has)) [
            | inl before ↦ inv.only p before
            | inr same ↦ (
              found.0,
              subst (λ (k : ℕ). slice_get c.args.circuit.now.latches k ≡ Some found.0) same found.1,
              subst (λ (l : ℕ). Contains literals l) (sym found.2) (Contains-from_get literals place literal here),
            )
          ];
    }

pub returns-clause-some : goal.returns-clause-some
returns-clause-some c =
    let inv = c.loop-literal.invariant in
    record {
      each = λ l has.
          let (k, at) = get_from_Contains c.args.literals.now l has in
          let lt = slice_get_within c.args.literals.now k l at in
          inv.each k l (omega (arith, lt, c.loop-literal-test.false)) at;
      only = inv.only;
    }
