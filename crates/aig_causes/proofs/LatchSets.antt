-- Latches that are named, in order.
use Rattle.std.proofs.Common.{◌≡◌, inl, inr, ℕ, ◌+◌, ◌<◌, ◌≤◌, List, [], ◌∷◌, ◌++◌, length, Bool, Contains, get_or}
use Rattle.std.proofs.Common.{subst, arith}
use Rattle.std.proofs.Math.ListN.{get_or-append}
use Rattle.std.proofs.lemmas.Bool.{cases_lt}
use Rattle.std.proofs.lemmas.List.{get_or_push, length_push}
use Rattle.std.proofs.lemmas.List.Elements.{Contains-append_left, Contains-push, Contains-push_cases}
use Rattle.std.proofs.lemmas.Option.{slice_get-get_or}
use Rattle.std.specs.List.Sorted.{IsStrictlyIncreasing}
use Rattle.aig_base.proofs.lists.Gets.{Contains-from_get}
use Rattle.aig_causes.specs.Explanation.{AreNamedBetween, IsNamed}

increasing_push : (xs : List ℕ) (y : ℕ) → IsStrictlyIncreasing xs → ((x : ℕ) → Contains xs x → x < y)
    → IsStrictlyIncreasing (xs ++ y ∷ [])
increasing_push xs y h below k lt =
    let size = length_push xs y in
    let here : k < length xs = omega (arith, size, lt) in
    let left : get_or (xs ++ y ∷ []) k 0 ≡ get_or xs k 0 = get_or-append xs (y ∷ []) 0 k here in
    elim (cases_lt (k + 1) (length xs)) [
      | inl before ↦
          let right : get_or (xs ++ y ∷ []) (k + 1) 0 ≡ get_or xs (k + 1) 0 = get_or-append xs (y ∷ []) 0 (k + 1) before in
          let up : get_or xs k 0 < get_or xs (k + 1) 0 = h k before in omega (arith, left, right, up)
      | inr end ↦
          let last : length xs ≡ k + 1 = omega (arith, here, end) in
          let right : get_or (xs ++ y ∷ []) (k + 1) 0 ≡ y = get_or_push xs y 0 (k + 1) last in
          let up : get_or xs k 0 < y =
          below (get_or xs k 0) (Contains-from_get xs k (get_or xs k 0) (slice_get-get_or xs k 0 here)) in
          omega (arith, left, right, up)
    ]

module _ (named : List Bool) (first p : ℕ) (latches : List ℕ) (up : first ≤ p) (h : AreNamedBetween named first p latches) where
  pub between_more : IsNamed named p → AreNamedBetween named first (p + 1) (latches ++ p ∷ [])
  between_more has = record {
    each = λ q le lt is. elim (cases_lt q p) [
      | inl before ↦ Contains-append_left latches (p ∷ []) q (h.each q le before is)
      | inr after ↦
          let same : p ≡ q = omega (arith, after, lt) in
          subst (λ (k : ℕ). Contains (latches ++ p ∷ []) k) same (Contains-push latches p)
    ];
    only = λ q k. elim (Contains-push_cases latches p q k) [
      | inl before ↦ let found = h.only q before in (found.0, omega (arith, found.1), found.2)
      | inr same ↦
          (omega (arith, same, up), omega (arith, same), subst (λ (k : ℕ). IsNamed named k) same has)
    ];
    order = increasing_push latches p h.order (λ q k. (h.only q k).1);
  }

  pub between_on : (IsNamed named p → ⊥) → AreNamedBetween named first (p + 1) latches
  between_on none = record {
    each = λ q le lt is. elim (cases_lt q p) [
      | inl before ↦ h.each q le before is
      | inr after ↦
          let same : q ≡ p = omega (arith, after, lt) in
          absurd (none (subst (λ (k : ℕ). IsNamed named k) same is))
    ];
    only = λ q k. let found = h.only q k in (found.0, omega (arith, found.1), found.2);
    order = h.order;
  }
