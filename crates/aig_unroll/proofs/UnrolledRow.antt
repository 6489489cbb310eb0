-- The one row of the unrolled circuit, cell by cell, and what stands in joined frames.
use Rattle.std.proofs.Common.{◌≡◌, ◌⊎◌, inl, inr, ℕ, zero, suc, ◌+◌, ◌*◌, ◌<◌, Bool, true, false, if◌then◌else◌, List}
use Rattle.std.proofs.Common.{[], ◌∷◌, ◌++◌, length, map, take, flat_map, All, Some, slice_get, refl, sym, ◌∙◌, ap}
use Rattle.std.proofs.Common.{subst, arith, zero-mul, zero-add, length-append}
use Rattle.std.specs.List.{range_with_len}
use Rattle.std.proofs.lemmas.List.Elements.{All-head, All-tail}
use Rattle.std.proofs.lemmas.List.FromFn.{length-map-range_with_len, get_or-map-range_with_len}
use Rattle.std.proofs.lemmas.List.Sums.{sum_by-cons}
use Rattle.std.proofs.lemmas.Option.{slice_get-get_or}
use Rattle.aig_parts.specs.declared.latch.Latch.{Latch}
use Rattle.aig_parts.specs.declared.ternary.Tern.{Tern}
use Rattle.aig_base.specs.Renumbered.{evens}
use Rattle.aig_base.proofs.lists.Evens.{length-evens_from, get_or-evens_from}
use Rattle.aig_base.proofs.lists.Positions.{slice_get_left, slice_get_right}
use Rattle.aig_unroll.specs.FrameLiteral.{is_uninitialised, uninitialised}
use Rattle.aig_unroll.specs.Unrolled.{frames}
use Rattle.aig_unroll.specs.UnrolledValues.{free_values}
use Rattle.aig_unroll.proofs.UnrolledCircuit.{length-frames}

-- an input of the unrolled circuit
pub evens_at : (n i : ℕ) → i < n → slice_get (evens n) i ≡ Some (2 * (1 + i))
evens_at n i lt =
    let below : i < length (evens n) = omega (arith, length-evens_from 1 n) in
    slice_get-get_or (evens n) i 0 below ∙ ap Some (get_or-evens_from 1 n i 0 lt)

-- the item at a place of those by their places
pub at_range : {A : Type 0} (f : ℕ → A) (n i : ℕ) → i < n → slice_get (map f (range_with_len 0 n)) i ≡ Some (f i)
at_range f n i lt =
    let below : i < length (map f (range_with_len 0 n)) = omega (arith, length-map-range_with_len f 0 n) in
    slice_get-get_or (map f (range_with_len 0 n)) i (f i) below
    ∙ ap Some (get_or-map-range_with_len f 0 n i i (f i) lt (omega arith))

module _ (width : ℕ) where
  pub length-flat : (rows : List (List Tern)) → All (λ row. length row ≡ width) rows
      → length (flat_map (λ row. row) rows) ≡ length rows * width
  length-flat [] wide = sym (zero-mul width)
  length-flat (r ∷ rows) wide =
      let e = length-append r (flat_map (λ row. row) rows) in
      let f = length-flat rows (All-tail (λ row. length row ≡ width) r rows wide) in
      let g = All-head (λ row. length row ≡ width) r rows wide in
      omega arith

  -- a cell of the rows in turn
  pub flat_at : (rows : List (List Tern)) → All (λ row. length row ≡ width) rows → (t p : ℕ) (row : List Tern) (w : Tern)
      → slice_get rows t ≡ Some row → slice_get row p ≡ Some w
      → slice_get (flat_map (λ row. row) rows) (t * width + p) ≡ Some w
  flat_at [] wide t p row w at is = cc
  flat_at (r ∷ rows) wide zero p row w at is =
      let same : r ≡ row = cc in
      rw (zero-mul, zero-add) (slice_get_left r (flat_map (λ row. row) rows) p w (rw same is))
  flat_at (r ∷ rows) wide (suc t) p row w at is =
      let long = All-head (λ row. length row ≡ width) r rows wide in
      let e : suc t * width + p ≡ length r + (t * width + p) = omega arith in
      rw e (slice_get_right r (flat_map (λ row. row) rows) (t * width + p) w
      (flat_at rows (All-tail (λ row. length row ≡ width) r rows wide) t p row w at is))

-- the start value of an uninitialised latch, at its place among these
pub free_at : (xs : List Latch) (start : List Tern) (p : ℕ) (x : Latch) (w : Tern) → slice_get xs p ≡ Some x
    → slice_get start p ≡ Some w → is_uninitialised x ≡ true
    → slice_get (free_values xs start) (uninitialised (take p xs)) ≡ Some w
free_at [] start p x w at is own = cc
free_at (y ∷ ys) [] p x w at is own = cc
free_at (y ∷ ys) (v ∷ vs) zero x w at is own =
    let same : y ≡ x = cc in
    let e : is_uninitialised y ≡ true = rw same own in
    rw e is
free_at (y ∷ ys) (v ∷ vs) (suc p) x w at is own =
    go (is_uninitialised y) refl (free_at ys vs p x w at is own)
  where
    go : (b : Bool) → is_uninitialised y ≡ b → slice_get (free_values ys vs) (uninitialised (take p ys)) ≡ Some w
        → slice_get (free_values (y ∷ ys) (v ∷ vs)) (uninitialised (take (suc p) (y ∷ ys))) ≡ Some w
    go true e later =
        let n : uninitialised (y ∷ take p ys) ≡ suc (uninitialised (take p ys)) =
        sum_by-cons (λ z. if is_uninitialised z then 1 else 0) y (take p ys)
        ∙ ap (λ b. (if b then 1 else 0) + uninitialised (take p ys)) e ∙ omega arith in
        ap (λ b. slice_get (if b then v ∷ free_values ys vs else free_values ys vs) (uninitialised (y ∷ take p ys))) e
        ∙ ap (λ m. slice_get (v ∷ free_values ys vs) m) n ∙ later
    go false e later =
        let n : uninitialised (y ∷ take p ys) ≡ uninitialised (take p ys) =
        sum_by-cons (λ z. if is_uninitialised z then 1 else 0) y (take p ys)
        ∙ ap (λ b. (if b then 1 else 0) + uninitialised (take p ys)) e ∙ omega arith in
        ap (λ b. slice_get (if b then v ∷ free_values ys vs else free_values ys vs) (uninitialised (y ∷ take p ys))) e
        ∙ ap (λ m. slice_get (free_values ys vs) m) n ∙ later

last_or : (n t : ℕ) → t < suc n → (t < n) ⊎ (t ≡ n)
last_or n t lt = grind arith

-- what stands in a frame stands in the joined frames
pub frames_at : {A : Type 0} (f : ℕ → List A) (n t i : ℕ) (x : A) → t < n → slice_get (f t) i ≡ Some x
    → (j : ℕ) × (slice_get (frames f n) j ≡ Some x)
frames_at f zero t i x lt at = absurd (omega arith)
frames_at f (suc n) t i x lt at = elim (last_or n t lt) [
  | inl below ↦ let (j, is) = frames_at f n t i x below at in (j, slice_get_left (frames f n) (f n) j x is)
  | inr same ↦
      let here : slice_get (f n) i ≡ Some x = subst (λ m. slice_get (f m) i ≡ Some x) same at in
      (length (frames f n) + i, slice_get_right (frames f n) (f n) i x here)
]

-- frames of one length: the place is known
pub place_at : {A : Type 0} (f : ℕ → List A) (c n t i : ℕ) (x : A) → ((s : ℕ) → length (f s) ≡ c) → t < n
    → slice_get (f t) i ≡ Some x → slice_get (frames f n) (t * c + i) ≡ Some x
place_at f c zero t i x each lt at = absurd (omega arith)
place_at f c (suc n) t i x each lt at = elim (last_or n t lt) [
  | inl below ↦ slice_get_left (frames f n) (f n) (t * c + i) x (place_at f c n t i x each below at)
  | inr same ↦
      let here : slice_get (f n) i ≡ Some x = subst (λ m. slice_get (f m) i ≡ Some x) same at in
      let e : length (frames f n) + i ≡ t * c + i =
      ap (λ m. m + i) (length-frames f c n each ∙ ap (λ m. m * c) (sym same)) in
      subst (λ m. slice_get (frames f n ++ f n) m ≡ Some x) e (slice_get_right (frames f n) (f n) i x here)
]
