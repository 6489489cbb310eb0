-- Chains of positions by their numbers.
use Rattle.std.proofs.Common.{◌≡◌, ◌≢◌, inl, inr, ℕ, ◌+◌, ◌<◌, ◌≤◌, ◌==◌, true, false, cond, List, [], ◌∷◌, length}
use Rattle.std.proofs.Common.{get_or, set, drop}
use Rattle.std.proofs.Common.{refl, sym, ap, subst, ◌∙◌, arith, rules, All, replicate}
use Rattle.std.proofs.lemmas.List.{length-set, get_or-set_same, get_or-set_other, drop_more, drop_all, get_or-replicate}
use Rattle.std.proofs.lemmas.List.Elements.{All-nil, All-cons, All-head, All-tail, All-weaker}
use Rattle.std.proofs.lemmas.Bool.{cases_eq}
use Rattle.aig_base.specs.Selected.{places_from}
use Rattle.aig_base.specs.state.PropertyPlaces.{IsChain, ArePlacesFrom, ArePlaces}

-- each position is at or after the first
pub places_above : (i : ℕ) (qs : List ℕ) (p : ℕ) → All (λ j. i ≤ j) (places_from i qs p)
unfolding places_from
places_above i [] p = All-nil (λ j. i ≤ j)
places_above i (q ∷ qs) p =
    let later : All (λ j. i ≤ j) (places_from (i + 1) qs p) =
    All-weaker (λ j. i + 1 ≤ j) (λ j. i ≤ j) (λ j h. omega arith) (places_from (i + 1) qs p) (places_above (i + 1) qs p) in
    elim (q == p) as (λ b. All (λ j. i ≤ j) (cond b (i ∷ places_from (i + 1) qs p) (places_from (i + 1) qs p))) [
      | true ↦ All-cons (λ j. i ≤ j) i (places_from (i + 1) qs p) (omega arith) later
      | false ↦ later
    ]

-- the first of these numbers is this one, or it is another
pub places_first : (i : ℕ) (q : ℕ) (qs : List ℕ) → places_from i (q ∷ qs) q ≡ i ∷ places_from (i + 1) qs q
unfolding places_from
places_first i q qs = let b : q == q ≡ true = search rules in ap (λ t. cond t (i ∷ places_from (i + 1) qs q) (places_from (i + 1) qs q)) b

pub places_later : (i : ℕ) (q : ℕ) (qs : List ℕ) (p : ℕ) → (q ≡ p → ⊥) → places_from i (q ∷ qs) p ≡ places_from (i + 1) qs p
unfolding places_from
places_later i q qs p ne = let b : q == p ≡ false = search rules in ap (λ t. cond t (i ∷ places_from (i + 1) qs p) (places_from (i + 1) qs p)) b

module _ (next : List ℕ) (i : ℕ) (lt : i < length next) where
  -- a chain behind a position does not see it
  pub chain_stays : (v at : ℕ) (js : List ℕ) → All (λ j. i < j) js → IsChain next at js → IsChain (set next i v) at js
  unfolding IsChain
  chain_stays v at [] above c = c ∙ sym (length-set next i v)
  chain_stays v at (j ∷ js) above (is, within, rises, more) =
      let over : i < j = All-head (λ k. i < k) j js above in
      let ne : j ≢ i = omega arith in
      let e : get_or (set next i v) j 0 ≡ get_or next j 0 = get_or-set_other next i j v 0 ne in
      let rest = chain_stays v (get_or next j 0) js (All-tail (λ k. i < k) j js above) more in (
        is,
        subst (λ n. j < n) (sym (length-set next i v)) within,
        subst (λ n. j < n) (sym e) rises,
        subst (λ n. IsChain (set next i v) n js) (sym e) rest,
      )

  -- such a chain begins behind it
  pub chain_ahead : (at : ℕ) (js : List ℕ) → All (λ j. i < j) js → IsChain next at js → i < at
  unfolding IsChain
  chain_ahead at [] above c = omega (arith, c)
  chain_ahead at (j ∷ js) above (is, within, rises, more) =
      let over : i < j = All-head (λ k. i < k) j js above in
      omega (arith, is)

  -- the position before it
  pub chain_more : (v : ℕ) (js : List ℕ) → All (λ j. i < j) js → IsChain next v js → IsChain (set next i v) i (i ∷ js)
  unfolding IsChain
  chain_more v js above c =
      let e : get_or (set next i v) i 0 ≡ v = get_or-set_same next i v 0 lt in (
        refl,
        subst (λ n. i < n) (sym (length-set next i v)) lt,
        subst (λ n. i < n) (sym e) (chain_ahead v js above c),
        subst (λ n. IsChain (set next i v) n js) (sym e) (chain_stays v v js above c),
      )

-- one position more
pub link_more : (numbers first next : List ℕ) (i q : ℕ) → i < length numbers → i < length next → q ≡ get_or numbers i 0
    → q < length first → ArePlacesFrom (i + 1) (drop (i + 1) numbers) first next
    → ArePlacesFrom i (drop i numbers) (set first q i) (set next i (get_or first q 0))
link_more numbers first next i q lt within is below h = record {
  chains = λ p pl.
      let rest = drop (i + 1) numbers in
      let e : drop i numbers ≡ q ∷ rest = drop_more numbers i 0 lt ∙ ap (λ x. x ∷ rest) (sym is) in
      let over : (n : ℕ) → All (λ j. i < j) (places_from (i + 1) rest n) = λ n.
      All-weaker (λ j. i + 1 ≤ j) (λ j. i < j) (λ j k. omega arith) _ (places_above (i + 1) rest n) in
      let inside : p < length first = omega (arith, pl, length-set first q i) in
      elim (cases_eq q p) [
        | inl same ↦
            let at : get_or (set first q i) q 0 ≡ i = get_or-set_same first q i 0 below in
            let js : places_from i (drop i numbers) q ≡ i ∷ places_from (i + 1) rest q = ap (λ xs. places_from i xs q) e ∙ places_first i q rest in
            let c : IsChain (set next i (get_or first q 0)) i (i ∷ places_from (i + 1) rest q) =
            chain_more next i within (get_or first q 0) (places_from (i + 1) rest q) (over q) (h.chains q below) in
            subst (λ n. IsChain (set next i (get_or first q 0)) (get_or (set first q i) n 0) (places_from i (drop i numbers) n)) same
            (subst (λ n. IsChain (set next i (get_or first q 0)) n (places_from i (drop i numbers) q)) (sym at)
            (subst (λ xs. IsChain (set next i (get_or first q 0)) i xs) (sym js) c))
        | inr other ↦
            let ne : p ≢ q = λ x. other (sym x) in
            let at : get_or (set first q i) p 0 ≡ get_or first p 0 = get_or-set_other first q p i 0 ne in
            let js : places_from i (drop i numbers) p ≡ places_from (i + 1) rest p = ap (λ xs. places_from i xs p) e ∙ places_later i q rest p other in
            let c : IsChain (set next i (get_or first q 0)) (get_or first p 0) (places_from (i + 1) rest p) =
            chain_stays next i within (get_or first q 0) (get_or first p 0) (places_from (i + 1) rest p) (over p) (h.chains p inside) in
            subst (λ n. IsChain (set next i (get_or first q 0)) n (places_from i (drop i numbers) p)) (sym at)
            (subst (λ xs. IsChain (set next i (get_or first q 0)) (get_or first p 0) xs) (sym js) c)
      ];
}

-- no position yet
pub link_none : (numbers first next : List ℕ) (i : ℕ) → i ≡ length numbers → first ≡ replicate (length first) (length numbers)
    → length next ≡ length numbers → ArePlacesFrom i (drop i numbers) first next
unfolding IsChain places_from
link_none numbers first next i end blank size = record {
  chains = λ p pl.
      let none : drop i numbers ≡ [] = drop_all i numbers (omega (arith, end)) in
      let at : get_or first p 0 ≡ length numbers =
      ap (λ xs. get_or xs p 0) blank ∙ get_or-replicate (length first) p (length numbers) 0 pl in
      subst (λ xs. IsChain next (get_or first p 0) (places_from i xs p)) (sym none) (at ∙ sym size);
}

-- all positions
pub link_all : (numbers first next : List ℕ) (i : ℕ) → i ≡ 0 → length next ≡ length numbers
    → ArePlacesFrom i (drop i numbers) first next → ArePlaces numbers first next
link_all numbers first next i none size h = record {
  size = size;
  chains = λ p pl. subst (λ n. IsChain next (get_or first p 0) (places_from n (drop n numbers) p)) none (h.chains p pl);
}
