-- Lists of which some items are kept, by their marks.
use Rattle.std.proofs.Common.{◌≡◌, ℕ, zero, suc, ◌<◌, Bool, true, false, List, [], ◌∷◌, length, Some, slice_get, All}
use Rattle.std.proofs.Common.{refl, ap, arith}
use Rattle.std.proofs.lemmas.List.Elements.{All-nil, All-cons, All-head, All-tail}
use Rattle.aig_base.specs.Part.{picked, spread}

module _ {A B : Type 0} where
  -- what is at the same place in two lists of which the same items are kept
  pub picked_both : (bs : List Bool) (xs : List A) (ys : List B) (p : ℕ) (x : A) (y : B) → slice_get (picked bs xs) p ≡ Some x
      → slice_get (picked bs ys) p ≡ Some y
      → (i : ℕ) × (slice_get bs i ≡ Some true) × (slice_get xs i ≡ Some x) × (slice_get ys i ≡ Some y)
  unfolding picked
  picked_both [] xs ys p x y at is = cc
  picked_both (b ∷ bs) [] ys p x y at is = cc
  picked_both (b ∷ bs) (a ∷ xs) [] p x y at is = cc
  picked_both (true ∷ bs) (a ∷ xs) (c ∷ ys) zero x y at is = (0, refl, at, is)
  picked_both (true ∷ bs) (a ∷ xs) (c ∷ ys) (suc p) x y at is =
      let (i, marked, here, there) = picked_both bs xs ys p x y at is in (suc i, marked, here, there)
  picked_both (false ∷ bs) (a ∷ xs) (c ∷ ys) p x y at is =
      let (i, marked, here, there) = picked_both bs xs ys p x y at is in (suc i, marked, here, there)

  -- items that are kept are at the same place
  pub picked_at : (bs : List Bool) (xs : List A) (ys : List B) (i : ℕ) (x : A) (y : B) → slice_get bs i ≡ Some true
      → slice_get xs i ≡ Some x → slice_get ys i ≡ Some y
      → (p : ℕ) × (slice_get (picked bs xs) p ≡ Some x) × (slice_get (picked bs ys) p ≡ Some y)
  unfolding picked
  picked_at [] xs ys i x y marked at is = cc
  picked_at (b ∷ bs) [] ys i x y marked at is = cc
  picked_at (b ∷ bs) (a ∷ xs) [] i x y marked at is = cc
  picked_at (true ∷ bs) (a ∷ xs) (c ∷ ys) zero x y marked at is = (0, at, is)
  picked_at (false ∷ bs) (a ∷ xs) (c ∷ ys) zero x y marked at is = cc
  picked_at (true ∷ bs) (a ∷ xs) (c ∷ ys) (suc i) x y marked at is =
      let (p, here, there) = picked_at bs xs ys i x y marked at is in (suc p, here, there)
  picked_at (false ∷ bs) (a ∷ xs) (c ∷ ys) (suc i) x y marked at is = picked_at bs xs ys i x y marked at is

  -- as many
  pub length-picked : (bs : List Bool) (xs : List A) (ys : List B) → length xs ≡ length bs → length ys ≡ length bs
      → length (picked bs xs) ≡ length (picked bs ys)
  unfolding picked
  length-picked [] xs ys e f = refl
  length-picked (b ∷ bs) [] ys e f = absurd (omega (arith, e))
  length-picked (b ∷ bs) (x ∷ xs) [] e f = absurd (omega (arith, f))
  length-picked (true ∷ bs) (x ∷ xs) (y ∷ ys) e f = ap suc (length-picked bs xs ys (omega (arith, e)) (omega (arith, f)))
  length-picked (false ∷ bs) (x ∷ xs) (y ∷ ys) e f = length-picked bs xs ys (omega (arith, e)) (omega (arith, f))

module _ {A : Type 0} where
  pub fewer_picked : (bs : List Bool) (xs : List A) (n : ℕ) → length xs < n → length (picked bs xs) < n
  unfolding picked
  fewer_picked [] xs n lt = omega (arith, lt)
  fewer_picked (b ∷ bs) [] n lt = lt
  fewer_picked (true ∷ bs) (x ∷ xs) zero lt = absurd (omega (arith, lt))
  fewer_picked (true ∷ bs) (x ∷ xs) (suc n) lt = let less = fewer_picked bs xs n (omega (arith, lt)) in omega (arith, less)
  fewer_picked (false ∷ bs) (x ∷ xs) n lt = fewer_picked bs xs n (omega (arith, lt))

  pub length-spread : (bs : List Bool) (ys xs : List A) → length ys ≡ length bs → length (spread bs ys xs) ≡ length bs
  unfolding spread
  length-spread [] ys xs e = refl
  length-spread (b ∷ bs) [] xs e = absurd (omega (arith, e))
  length-spread (b ∷ bs) (y ∷ ys) [] e = ap suc (length-spread bs ys [] (omega (arith, e)))
  length-spread (true ∷ bs) (y ∷ ys) (x ∷ xs) e = ap suc (length-spread bs ys xs (omega (arith, e)))
  length-spread (false ∷ bs) (y ∷ ys) (x ∷ xs) e = ap suc (length-spread bs ys (x ∷ xs) (omega (arith, e)))

  -- what was spread is what is kept
  pub picked_spread : (bs : List Bool) (ys xs : List A) → length ys ≡ length bs → length xs ≡ length (picked bs ys)
      → picked bs (spread bs ys xs) ≡ xs
  unfolding picked spread
  picked_spread [] ys [] e f = refl
  picked_spread [] ys (x ∷ xs) e f = absurd (omega (arith, f))
  picked_spread (b ∷ bs) [] xs e f = absurd (omega (arith, e))
  picked_spread (true ∷ bs) (y ∷ ys) [] e f = absurd (omega (arith, f))
  picked_spread (false ∷ bs) (y ∷ ys) [] e f = picked_spread bs ys [] (omega (arith, e)) f
  picked_spread (true ∷ bs) (y ∷ ys) (x ∷ xs) e f = ap (λ zs. x ∷ zs) (picked_spread bs ys xs (omega (arith, e)) (omega (arith, f)))
  picked_spread (false ∷ bs) (y ∷ ys) (x ∷ xs) e f = picked_spread bs ys (x ∷ xs) (omega (arith, e)) f

  -- where a mark is false, the others are as they were
  pub spread_other : (bs : List Bool) (ys xs : List A) (i : ℕ) (z : A) → slice_get bs i ≡ Some false
      → slice_get (spread bs ys xs) i ≡ Some z → slice_get ys i ≡ Some z
  unfolding spread
  spread_other [] ys xs i z marked at = cc
  spread_other (b ∷ bs) [] xs i z marked at = cc
  spread_other (b ∷ bs) (y ∷ ys) [] zero z marked at = at
  spread_other (b ∷ bs) (y ∷ ys) [] (suc i) z marked at = spread_other bs ys [] i z marked at
  spread_other (true ∷ bs) (y ∷ ys) (x ∷ xs) zero z marked at = cc
  spread_other (false ∷ bs) (y ∷ ys) (x ∷ xs) zero z marked at = at
  spread_other (true ∷ bs) (y ∷ ys) (x ∷ xs) (suc i) z marked at = spread_other bs ys xs i z marked at
  spread_other (false ∷ bs) (y ∷ ys) (x ∷ xs) (suc i) z marked at = spread_other bs ys (x ∷ xs) i z marked at

  -- what holds of all that was spread, and of the others
  pub All-spread : (P : A → Type 0) (bs : List Bool) (ys xs : List A) → All P ys → All P xs → All P (spread bs ys xs)
  unfolding spread
  All-spread P [] ys xs h k = All-nil P
  All-spread P (b ∷ bs) [] xs h k = All-nil P
  All-spread P (b ∷ bs) (y ∷ ys) [] h k =
      All-cons P y (spread bs ys []) (All-head P y ys h) (All-spread P bs ys [] (All-tail P y ys h) k)
  All-spread P (true ∷ bs) (y ∷ ys) (x ∷ xs) h k =
      All-cons P x (spread bs ys xs) (All-head P x xs k) (All-spread P bs ys xs (All-tail P y ys h) (All-tail P x xs k))
  All-spread P (false ∷ bs) (y ∷ ys) (x ∷ xs) h k =
      All-cons P y (spread bs ys (x ∷ xs)) (All-head P y ys h) (All-spread P bs ys (x ∷ xs) (All-tail P y ys h) k)

  -- and of those that are kept
  pub All-picked : (P : A → Type 0) (bs : List Bool) (xs : List A) → All P xs → All P (picked bs xs)
  unfolding picked
  All-picked P [] xs h = All-nil P
  All-picked P (b ∷ bs) [] h = All-nil P
  All-picked P (true ∷ bs) (x ∷ xs) h = All-cons P x (picked bs xs) (All-head P x xs h) (All-picked P bs xs (All-tail P x xs h))
  All-picked P (false ∷ bs) (x ∷ xs) h = All-picked P bs xs (All-tail P x xs h)
