-- The frames of a run from some frame on, as a run from the state at that frame.
use Rattle.std.proofs.Common.{◌≡◌, ◌≢◌, ℕ, zero, suc, ◌+◌, List, [], ◌∷◌, length, take, drop, All}
use Rattle.std.proofs.Common.{Some, slice_get, refl, ap, subst, arith}
use Rattle.std.proofs.lemmas.List.Elements.{All-nil, All-cons}
use Rattle.aig_parts.specs.declared.latch.Latch.{Latch}
use Rattle.aig_parts.specs.declared.raw.Raw.{Raw}
use Rattle.aig_parts.specs.declared.ternary.Tern.{Tern}
use Rattle.aig_parts.specs.declared.ternary.Tern.TheVariants.{Zero, One, X}
use Rattle.aig_parts.specs.Ternary.{kleene_and, kleene_not}
use Rattle.aig_base.specs.Value as value
use Rattle.aig_base.specs.Value.{Value}
use Rattle.aig_refute.specs.Models.{AreKnown}

-- ---- places in lists

taken : {A : Type 0} (n s : ℕ) (xs : List A) (x : A) → slice_get (take n xs) s ≡ Some x → slice_get xs s ≡ Some x
taken zero s xs x at = cc
taken (suc n) s [] x at = cc
taken (suc n) zero (y ∷ xs) x at = at
taken (suc n) (suc s) (y ∷ xs) x at = taken n s xs x at

dropped : {A : Type 0} (d s : ℕ) (xs : List A) (x : A) → slice_get (drop d xs) s ≡ Some x → slice_get xs (d + s) ≡ Some x
dropped zero s xs x at = let e : s ≡ 0 + s = omega arith in subst (λ n. slice_get xs n ≡ Some x) e at
dropped (suc d) s [] x at = cc
dropped (suc d) s (y ∷ xs) x at =
    let e : suc (d + s) ≡ suc d + s = omega arith in subst (λ n. slice_get (y ∷ xs) n ≡ Some x) e (dropped d s xs x at)

-- the rows from frame d on, n of them
pub cut_row : {A : Type 0} (d n s : ℕ) (xs : List A) (x : A) → slice_get (take n (drop d xs)) s ≡ Some x
    → slice_get xs (d + s) ≡ Some x
cut_row d n s xs x at = dropped d s xs x (taken n s (drop d xs) x at)

-- ---- values

module _ (raw : Raw) (start : List Tern) (rows : List (List Tern)) (d : ℕ) (state : List Tern) (later_rows : List (List Tern))
    (state_is : (p : ℕ) (x : Latch) (w : Tern) → slice_get raw.latches p ≡ Some x → slice_get state p ≡ Some w
    → Value raw start rows d x.lit w)
    (rows_are : (s : ℕ) (row : List Tern) → slice_get later_rows s ≡ Some row → slice_get rows (d + s) ≡ Some row) where
  -- a value at frame s of the later run is one at frame d + s
  pub later : {s l : ℕ} {w : Tern} → Value raw state later_rows s l w → Value raw start rows (d + s) l w
  later (value.constant_false s) = value.constant_false (d + s)
  later (value.constant_true s) = value.constant_true (d + s)
  later (value.input s p l w row at is cell) = value.input (d + s) p l w row at (rows_are s row is) cell
  later (value.latch_first p x w at is) =
      let e : d ≡ d + 0 = omega arith in subst (λ (n : ℕ). Value raw start rows n x.lit w) e (state_is p x w at is)
  later (value.latch_next s p x w at v) =
      let e : suc (d + s) ≡ d + suc s = omega arith in
      subst (λ (n : ℕ). Value raw start rows n x.lit w) e (value.latch_next (d + s) p x w at (later v))
  later (value.gate s q g a b at va vb) = value.gate (d + s) q g a b at (later va) (later vb)
  later (value.negated s l w over neg v) = value.negated (d + s) l w over neg (later v)

-- ---- the state at a frame

state_more : (raw : Raw) (start : List Tern) (rows : List (List Tern)) (d : ℕ) (x : Latch) (xs : List Latch) (w : Tern) (ws : List Tern)
    → Value raw start rows d x.lit w
    → ((p : ℕ) (y : Latch) (u : Tern) → slice_get xs p ≡ Some y → slice_get ws p ≡ Some u → Value raw start rows d y.lit u)
    → (p : ℕ) (y : Latch) (u : Tern) → slice_get (x ∷ xs) p ≡ Some y → slice_get (w ∷ ws) p ≡ Some u
    → Value raw start rows d y.lit u
state_more raw start rows d x xs w ws v rest zero y u at is =
    let same : x ≡ y = (let e : Some x ≡ Some y = at in cc) in
    let equal : w ≡ u = (let e : Some w ≡ Some u = is in cc) in
    subst (λ (z : Latch). Value raw start rows d z.lit u) same (subst (λ (t : Tern). Value raw start rows d x.lit t) equal v)
state_more raw start rows d x xs w ws v rest (suc p) y u at is = rest p y u at is

pub state_at : (raw : Raw) (start : List Tern) (rows : List (List Tern)) (d : ℕ) (xs : List Latch)
    → ((p : ℕ) (x : Latch) → slice_get xs p ≡ Some x → (w : Tern) × Value raw start rows d x.lit w)
    → (ws : List Tern) × (length ws ≡ length xs)
    × ((p : ℕ) (x : Latch) (w : Tern) → slice_get xs p ≡ Some x → slice_get ws p ≡ Some w → Value raw start rows d x.lit w)
state_at raw start rows d [] each = ([], refl, λ p x w at is. (let no : ⊥ = cc in absurd no))
state_at raw start rows d (x ∷ xs) each =
    let (w, v) = each zero x refl in
    let (ws, long, all) = state_at raw start rows d xs (λ p y at. each (suc p) y at) in
    (w ∷ ws, ap suc long, state_more raw start rows d x xs w ws v all)

-- ---- no value is unknown

known_and : (b c : Tern) → b ≢ X → c ≢ X → kleene_and b c ≢ X
known_and Zero c p q e = cc
known_and One c p q e = q e
known_and X c p q e = p refl

known_not : (b : Tern) → b ≢ X → kleene_not b ≢ X
known_not Zero p e = cc
known_not One p e = cc
known_not X p e = p refl

module _ (raw : Raw) (start : List Tern) (rows : List (List Tern)) (known_start : (p : ℕ) (w : Tern) → slice_get start p ≡ Some w → w ≢ X)
    (known_rows : (t : ℕ) (row : List Tern) (p : ℕ) (w : Tern) → slice_get rows t ≡ Some row → slice_get row p ≡ Some w → w ≢ X) where
  pub known_value : {t l : ℕ} {w : Tern} → Value raw start rows t l w → w ≢ X
  known_value (value.constant_false t) = λ e. cc
  known_value (value.constant_true t) = λ e. cc
  known_value (value.input t p l w row at is cell) = known_rows t row p w is cell
  known_value (value.latch_first p x w at is) = known_start p w is
  known_value (value.latch_next t p x w at v) = known_value v
  known_value (value.gate t q g a b at va vb) = known_and a b (known_value va) (known_value vb)
  known_value (value.negated t l w over neg v) = known_not w (known_value v)

-- ---- lists without unknown values

pub all_known : (ws : List Tern) → ((p : ℕ) (w : Tern) → slice_get ws p ≡ Some w → w ≢ X) → AreKnown ws
all_known [] each = All-nil (λ (w : Tern). w ≢ X)
all_known (w ∷ ws) each =
    All-cons (λ (v : Tern). v ≢ X) w ws (each zero w refl) (all_known ws (λ p v at. each (suc p) v at))

pub rows_known : (rows : List (List Tern))
    → ((t : ℕ) (row : List Tern) (p : ℕ) (w : Tern) → slice_get rows t ≡ Some row → slice_get row p ≡ Some w → w ≢ X)
    → All AreKnown rows
rows_known [] each = All-nil AreKnown
rows_known (row ∷ rows) each =
    All-cons AreKnown row rows (all_known row (λ p w at. each zero row p w refl at))
    (rows_known rows (λ t r p w at. each (suc t) r p w at))
