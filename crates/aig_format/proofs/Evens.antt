-- Literals of variables in order, and lists whose entries have them.
use Rattle.std.proofs.Common.{◌≡◌, ℕ, zero, suc, ◌+◌, ◌*◌, ◌≤◌, List, [], ◌∷◌, ◌++◌, length, map, refl, sym, ap, ◌∙◌}
use Rattle.std.proofs.Common.{arith}
use Rattle.std.specs.Prelude.{All}
use Rattle.std.specs.List.{range_with_len}
use Rattle.std.proofs.lemmas.List.FromFn.{map-range_with_len_more, length-map-range_with_len}
use Rattle.std.proofs.lemmas.List.Elements.{All-nil, All-cons, All-head, All-tail}
use Rattle.aig_base.specs.Renumbered.{evens}
use Rattle.aig_format.specs.state.Fits.{FitsFrom}

pub evens_more : (n : ℕ) → evens (n + 1) ≡ evens n ++ 2 * (n + 1) ∷ []
evens_more n = map-range_with_len_more (λ v. 2 * v) 1 n (n + 1) (omega arith)

-- the literals of n variables from v on
abbrev pub evens_from : ℕ → ℕ → List ℕ
evens_from v n = map (λ u. 2 * u) (range_with_len v n)

pub length_evens : (v n : ℕ) → length (evens_from v n) ≡ n
length_evens v n = length-map-range_with_len (λ u. 2 * u) v n

pub evens_join : (v n m : ℕ) → evens_from v n ++ evens_from (v + n) m ≡ evens_from v (n + m)
evens_join v zero m =
    let a : v + 0 ≡ v = omega arith in
    let b : 0 + m ≡ m = omega arith in
    (λ i. evens_from (a i) (sym b i))
evens_join v (suc n) m =
    let a : v + suc n ≡ (v + 1) + n = omega arith in
    let b : suc n + m ≡ suc (n + m) = omega arith in
    ap (λ (w : ℕ). 2 * v ∷ (evens_from (v + 1) n ++ evens_from w m)) a
    ∙ ap (λ (t : List ℕ). 2 * v ∷ t) (evens_join (v + 1) n m)
    ∙ ap (evens_from v) (sym b)

module _ {X : Type 0} (f : X → ℕ) where
  -- each entry has the literal of its variable
  abbrev pub HasEven : ℕ → X → Type 0
  HasEven v x = f x ≡ 2 * v

  pub evens_of : (v : ℕ) (xs : List X) → FitsFrom HasEven v xs → map f xs ≡ evens_from v (length xs)
  unfolding FitsFrom
  evens_of v [] fits = refl
  evens_of v (x ∷ xs) fits =
      let next : suc v ≡ v + 1 = omega arith in
      (λ i. fits.0 i ∷ evens_of (suc v) xs fits.1 i) ∙ ap (λ (w : ℕ). 2 * v ∷ evens_from w (length xs)) next

  pub of_evens : (v : ℕ) (xs : List X) → map f xs ≡ evens_from v (length xs) → FitsFrom HasEven v xs
  unfolding FitsFrom
  of_evens v [] e = tt
  of_evens v (x ∷ xs) e =
      let next : v + 1 ≡ suc v = omega arith in
      let parts = cons_is (f x) (2 * v) (map f xs) (evens_from (v + 1) (length xs)) e in
      (parts.0, of_evens (suc v) xs (parts.1 ∙ ap (λ (w : ℕ). evens_from w (length xs)) next))
    where
      cons_is : (a b : ℕ) (ys zs : List ℕ) → a ∷ ys ≡ b ∷ zs → (a ≡ b) × (ys ≡ zs)
      cons_is a b ys zs h = ((let p : a ≡ b = cc in p), (let q : ys ≡ zs = cc in q))

-- ---- lists whose entries fit their variables

pub fits_map : {X : Type 0} (A B : ℕ → X → Type 0) → ((v : ℕ) (x : X) → A v x → B v x) → (v : ℕ) (xs : List X)
    → FitsFrom A v xs → FitsFrom B v xs
unfolding FitsFrom
fits_map A B f v [] fits = tt
fits_map A B f v (x ∷ xs) fits = (f v x fits.0, fits_map A B f (suc v) xs fits.1)

-- with a fact of each entry
pub fits_and : {X : Type 0} (A : ℕ → X → Type 0) (P : X → Type 0) (v : ℕ) (xs : List X) → FitsFrom A v xs → All P xs
    → FitsFrom (λ u x. A u x × P x) v xs
unfolding FitsFrom
fits_and A P v [] fits all = tt
fits_and A P v (x ∷ xs) fits all = ((fits.0, All-head P x xs all), fits_and A P (suc v) xs fits.1 (All-tail P x xs all))

-- with a bound of the variables
pub fits_below : {X : Type 0} (A : ℕ → X → Type 0) (top v : ℕ) (xs : List X) → v + length xs ≤ suc top
    → FitsFrom A v xs → FitsFrom (λ u x. (u ≤ top) × A u x) v xs
unfolding FitsFrom
fits_below A top v [] le fits = tt
fits_below A top v (x ∷ xs) le fits =
    ((omega (arith, le), fits.0), fits_below A top (suc v) xs (omega (arith, le)) fits.1)

pub all_from : {X : Type 0} (A : ℕ → X → Type 0) (P : X → Type 0) → ((v : ℕ) (x : X) → A v x → P x)
    → (v : ℕ) (xs : List X) → FitsFrom A v xs → All P xs
unfolding FitsFrom
all_from A P f v [] fits = All-nil P
all_from A P f v (x ∷ xs) fits = All-cons P x xs (f v x fits.0) (all_from A P f (suc v) xs fits.1)
