-- The element at a position of joined lists.
use Rattle.std.proofs.Common.{◌≡◌, ◌≢◌, ℕ, zero, suc, ◌+◌, ◌<◌, ◌⊎◌, inl, inr, List, [], ◌∷◌, ◌++◌, length, get_or, set}
use Rattle.std.proofs.Common.{Some, refl, sym, ap, subst, ◌∙◌, arith, slice_get, Contains, All}
use Rattle.std.proofs.lemmas.Option.{slice_get-get_or, slice_get_within, get_or_from_slice_get, none-some, same_Some}

module _ {X : Type 0} where
  pub slice_get_left : (xs ys : List X) (k : ℕ) (x : X) → slice_get xs k ≡ Some x → slice_get (xs ++ ys) k ≡ Some x
  slice_get_left [] ys k x h = absurd (none-some x h)
  slice_get_left (y ∷ xs) ys zero x h = h
  slice_get_left (y ∷ xs) ys (suc k) x h = slice_get_left xs ys k x h

  -- an element of the second list stands further on
  pub slice_get_right : (xs ys : List X) (k : ℕ) → slice_get (xs ++ ys) (length xs + k) ≡ slice_get ys k
  slice_get_right [] ys k = let e : 0 + k ≡ k = omega arith in ap (slice_get ys) e
  slice_get_right (x ∷ xs) ys k =
      let e : suc (length xs) + k ≡ suc (length xs + k) = omega arith in
      ap (slice_get (x ∷ xs ++ ys)) e ∙ slice_get_right xs ys k

  pub slice_get_push : (xs : List X) (y x : X) (k : ℕ) → slice_get (xs ++ y ∷ []) k ≡ Some x
      → (slice_get xs k ≡ Some x) ⊎ ((k ≡ length xs) × (y ≡ x))
  slice_get_push [] y x zero h = inr (refl, same_Some y x h)
  slice_get_push [] y x (suc k) h = absurd (none-some x h)
  slice_get_push (z ∷ xs) y x zero h = inl h
  slice_get_push (z ∷ xs) y x (suc k) h = elim (slice_get_push xs y x k h) [
    | inl a ↦ inl a
    | inr b ↦ inr
        (ap suc b.0, b.1)
  ]

  pub slice_get_last : (xs : List X) (y : X) → slice_get (xs ++ y ∷ []) (length xs) ≡ Some y
  slice_get_last [] y = refl
  slice_get_last (x ∷ xs) y = slice_get_last xs y

  pub slice_get-set_same : (xs : List X) (i : ℕ) (y : X) → i < length xs → slice_get (set xs i y) i ≡ Some y
  slice_get-set_same [] i y l = absurd (omega arith)
  slice_get-set_same (x ∷ xs) zero y l = refl
  slice_get-set_same (x ∷ xs) (suc i) y l = slice_get-set_same xs i y (omega arith)

  pub slice_get-set_other : (xs : List X) (i j : ℕ) (y : X) → j ≢ i → slice_get (set xs i y) j ≡ slice_get xs j
  slice_get-set_other [] i j y n = refl
  slice_get-set_other (x ∷ xs) zero zero y n = absurd (n refl)
  slice_get-set_other (x ∷ xs) zero (suc j) y n = refl
  slice_get-set_other (x ∷ xs) (suc i) zero y n = refl
  slice_get-set_other (x ∷ xs) (suc i) (suc j) y n = slice_get-set_other xs i j y (λ e. n (ap suc e))

  -- an element that is there, by its position
  pub Contains-from_get : (xs : List X) (k : ℕ) (x : X) → slice_get xs k ≡ Some x → Contains xs x
  Contains-from_get xs k x h = (k, slice_get_within xs k x h, get_or_from_slice_get xs k x x h)

  pub get_from_Contains : (xs : List X) (x : X) → Contains xs x → (k : ℕ) × (slice_get xs k ≡ Some x)
  get_from_Contains xs x (k, l, e) = (k, slice_get-get_or xs k x l ∙ ap Some e)

  pub All-at : (P : X → Type 0) (xs : List X) (k : ℕ) (x : X) → All P xs → slice_get xs k ≡ Some x → P x
  All-at P [] k x all h = absurd (none-some x h)
  All-at P (y ∷ xs) zero x all h = subst P (same_Some y x h) (all 0 y (omega arith))
  All-at P (y ∷ xs) (suc k) x all h = All-at P xs k x (λ j d l. all (suc j) d (omega arith)) h

  pub All-by_get : (P : X → Type 0) (xs : List X) → ((k : ℕ) (x : X) → slice_get xs k ≡ Some x → P x) → All P xs
  All-by_get P xs f k d l = f k (get_or xs k d) (slice_get-get_or xs k d l)

  pub same_element : (xs : List X) (k : ℕ) (x y : X) → slice_get xs k ≡ Some x → slice_get xs k ≡ Some y → x ≡ y
  same_element xs k x y a b = same_Some x y (sym a ∙ b)
