-- Lists in which no element is twice.
use Rattle.std.proofs.Common.{◌≡◌, ◌≢◌, inl, inr, suc, ◌<◌, List, [], ◌∷◌, ◌++◌, length, get_or, map, flat_map}
use Rattle.std.proofs.Common.{refl, sym, ap, subst, ◌∙◌, arith, All, AllPairs, Contains}
use Rattle.std.proofs.lemmas.List.{get_or_append_left, get_or_at, length-append}
use Rattle.std.proofs.lemmas.List.Elements.{All-append, All-map, Contains-get_or, Contains-append_cases}
use Rattle.std.proofs.lemmas.List.Kept.{AllPairs-cons}

module _ {X : Type 0} (R : X → X → Type 0) where
  pub pairs_none : AllPairs R []
  pairs_none = λ i j d lt m. absurd (omega arith)

  pub pairs_one : (x : X) → AllPairs R (x ∷ [])
  pairs_one x = λ i j d lt m. absurd (omega arith)

  pub pairs_head : (x : X) (xs : List X) → AllPairs R (x ∷ xs) → All (R x) xs
  pairs_head x xs h = λ k d l. h 0 (suc k) d (omega arith) (omega arith)

  pub pairs_tail : (x : X) (xs : List X) → AllPairs R (x ∷ xs) → AllPairs R xs
  pairs_tail x xs h = λ i j d lt m. h (suc i) (suc j) d (omega arith) (omega arith)

  pub pairs_left : (xs ys : List X) → AllPairs R (xs ++ ys) → AllPairs R xs
  pairs_left xs ys h = λ i j d lt m.
      let below : i < length xs = omega arith in
      let inside : j < length (xs ++ ys) = omega (arith, length-append xs ys) in
      subst (λ a. R a (get_or xs j d)) (get_or_append_left xs ys d i below)
      (subst (λ b. R (get_or (xs ++ ys) i d) b) (get_or_append_left xs ys d j m) (h i j d lt inside))

  pub pairs_joined : (xs ys : List X) → AllPairs R xs → AllPairs R ys
      → ((x y : X) → Contains xs x → Contains ys y → R x y) → AllPairs R (xs ++ ys)
  pairs_joined [] ys p q cross = q
  pairs_joined (x ∷ xs) ys p q cross =
      AllPairs-cons R x (xs ++ ys)
      (All-append (R x) xs ys (pairs_head x xs p)
      (λ k d l. cross x (get_or ys k d) (0, omega arith, refl) (Contains-get_or ys k d l)))
      (pairs_joined xs ys (pairs_tail x xs p) q (λ a b (k, l, e) c. cross a b (suc k, omega (arith, l), e) c))

  pub pairs_mapped : {Y : Type 0} (S : Y → Y → Type 0) (f : X → Y) → ((a b : X) → R a b → S (f a) (f b)) → (xs : List X)
      → AllPairs R xs → AllPairs S (map f xs)
  pairs_mapped S f g [] h = λ i j d lt m. absurd (omega arith)
  pairs_mapped S f g (x ∷ xs) h =
      AllPairs-cons S (f x) (map f xs)
      (All-map (S (f x)) f xs (λ k d l. g x (get_or xs k d) (pairs_head x xs h k d l)))
      (pairs_mapped S f g xs (pairs_tail x xs h))

-- an element is not among those before it
pub not_before : {X : Type 0} (xs ys : List X) (y : X) → AllPairs (λ a b. a ≢ b) (xs ++ y ∷ ys) → Contains xs y → ⊥
not_before xs ys y h (k, l, e) =
    let inside : length xs < length (xs ++ y ∷ ys) = omega (arith, length-append xs (y ∷ ys)) in
    h k (length xs) y l inside (get_or_append_left xs (y ∷ ys) y k l ∙ e ∙ sym (get_or_at xs y ys y (length xs) refl))

-- pieces, each of which says what it comes from
module _ {A B : Type 0} (f : A → List B) (back : B → A) (comes : (a : A) (b : B) → Contains (f a) b → back b ≡ a)
    (each : (a : A) → AllPairs (λ x y. x ≢ y) (f a)) where
  comes_from : (xs : List A) (b : B) → Contains (flat_map f xs) b → Contains xs (back b)
  comes_from [] b (k, l, e) = absurd (omega arith)
  comes_from (x ∷ xs) b c = elim (Contains-append_cases (f x) (flat_map f xs) b c) [
    | inl here ↦ (0, omega arith, sym (comes x b here))
    | inr later ↦ let (k, l, e) = comes_from xs b later in (suc k, omega (arith, l), e)
  ]

  pub pieces_distinct : (xs : List A) → AllPairs (λ x y. x ≢ y) xs → AllPairs (λ x y. x ≢ y) (flat_map f xs)
  pieces_distinct [] h = λ i j d lt m. absurd (omega arith)
  pieces_distinct (x ∷ xs) h =
      pairs_joined (λ a b. a ≢ b) (f x) (flat_map f xs) (each x) (pieces_distinct xs (pairs_tail (λ a b. a ≢ b) x xs h))
      (λ a b here later e.
      let (k, l, is) = comes_from xs b later in
      let same : back b ≡ x = ap back (sym e) ∙ comes x a here in
      h 0 (suc k) (back b) (omega arith) (omega (arith, l)) (sym same ∙ sym is))
