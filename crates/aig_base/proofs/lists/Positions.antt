-- Positions in lists.
use Rattle.std.proofs.Common.{◌≡◌, ◌⊎◌, inl, inr, ℕ, zero, suc, ◌+◌, ◌<◌, List, [], ◌∷◌, ◌++◌, length, map, Option}
use Rattle.std.proofs.Common.{Some}
use Rattle.std.proofs.Common.{None, get_or, slice_get, Contains, refl, sym, ◌∙◌, ap, arith, option_map, zero-add}
use Rattle.std.proofs.Common.{suc-add}
use Rattle.std.proofs.lemmas.Option.{slice_get-map, slice_get_within, get_or_from_slice_get, slice_get-get_or}

pub no_element : (v : ℕ) → Contains {X = ℕ} [] v → ⊥
no_element v (k, lt, is) = absurd (omega arith)

-- a list has a number, or has it not
pub contains_or_not : (xs : List ℕ) (x : ℕ) → Contains xs x ⊎ (Contains xs x → ⊥)
contains_or_not [] x = inr (λ h. omega (arith, h.1))
contains_or_not (y ∷ xs) x = elim (same x y) [
  | inl e ↦ inl (0, omega arith, sym e)
  | inr ne ↦ elim (contains_or_not xs x) [
    | inl h ↦ inl (suc h.0, omega (arith, h.1), h.2)
    | inr never ↦ inr (λ h. later h.0 h.1 h.2 ne never)
  ]
]
  where
    same : (a b : ℕ) → (a ≡ b) ⊎ (a ≡ b → ⊥)
    same a b = grind arith

    later : (k : ℕ) → k < length (y ∷ xs) → get_or (y ∷ xs) k x ≡ x → (x ≡ y → ⊥) → (Contains xs x → ⊥) → ⊥
    later zero lt is ne never = ne (sym is)
    later (suc k) lt is ne never = never (k, omega arith, is)

-- something stands at each position
pub stands_at : {A : Type 0} (xs : List A) (i : ℕ) → i < length xs → (x : A) × (slice_get xs i ≡ Some x)
stands_at [] i lt = absurd (omega arith)
stands_at (x ∷ xs) zero lt = (x, refl)
stands_at (x ∷ xs) (suc i) lt = stands_at xs i (omega arith)

-- an element of the first list, in the joined one
pub slice_get_left : {A : Type 0} → (xs ys : List A) (i : ℕ) (x : A) → slice_get xs i ≡ Some x
    → slice_get (xs ++ ys) i ≡ Some x
slice_get_left (a ∷ xs) ys zero x h = h
slice_get_left (a ∷ xs) ys (suc i) x h = slice_get_left xs ys i x h
slice_get_left [] ys i x h = cc

-- an element of the second list, in the joined one
pub slice_get_right : {A : Type 0} → (xs ys : List A) (i : ℕ) (x : A) → slice_get ys i ≡ Some x
    → slice_get (xs ++ ys) (length xs + i) ≡ Some x
slice_get_right [] ys i x h = rw zero-add h
slice_get_right (a ∷ xs) ys i x h = rw suc-add (slice_get_right xs ys i x h)

-- what stands at a position is contained
pub Contains-from_slice_get : {A : Type 0} → (xs : List A) (i : ℕ) (x : A) → slice_get xs i ≡ Some x → Contains xs x
Contains-from_slice_get xs i x h = (i, slice_get_within xs i x h, get_or_from_slice_get xs i x x h)

-- where an element stands
pub position_of : {A : Type 0} → (xs : List A) (x : A) → Contains xs x → (i : ℕ) × (slice_get xs i ≡ Some x)
position_of xs x (k, lt, is) = (k, slice_get-get_or xs k x lt ∙ ap Some is)

-- what an element of a mapped option comes from
pub unmap_option : {A B : Type 0} → (f : A → B) (o : Option A) (y : B) → option_map f o ≡ Some y
    → (x : A) × (o ≡ Some x) × (f x ≡ y)
unmap_option f None y h = cc
unmap_option f (Some x) y h = (x, refl, cc)

-- what an element of a mapped list comes from
pub unmap : {A B : Type 0} → (f : A → B) (xs : List A) (y : B) → Contains (map f xs) y
    → (x : A) × (i : ℕ) × (slice_get xs i ≡ Some x) × (f x ≡ y)
unmap f xs y h =
    let (i, at) = position_of (map f xs) y h in
    let (x, here, is) = unmap_option f (slice_get xs i) y (sym (slice_get-map f xs i) ∙ at) in
    (x, i, here, is)

-- an element is the first, or one of the rest
pub Contains-cons : {A : Type 0} → (x : A) (xs : List A) (y : A) → Contains (x ∷ xs) y → (y ≡ x) ⊎ Contains xs y
Contains-cons x xs y (zero, lt, is) = inl (sym is)
Contains-cons x xs y (suc k, lt, is) = inr (k, omega arith, is)
