-- The two rows of a signal, cell by cell.
use Rattle.std.proofs.Common.{◌≡◌, ◌⊎◌, ℕ, zero, suc, ◌+◌, ◌-◌, ◌≤◌, List, [], ◌∷◌, ◌++◌, length, Some, slice_get}
use Rattle.std.proofs.Common.{inl, inr, refl, sym, ap, ◌∙◌, subst, arith}
use Rattle.std.proofs.lemmas.List.{length_push}
use Rattle.std.proofs.lemmas.Option.{slice_get_within}
use Rattle.aig_bench.specs.BenchState.{CircuitAndRows}
use Rattle.aig_signals.specs.declared.signal.Signal.{Signal}
use Rattle.aig_prompt.specs.Table.{TableRow}
use Rattle.aig_shell.specs.Tables.{AreTwoCells, AreTwoRows, IsBelow, IsSignalCell}

-- an item of a list with one more
get_pushed : {A : Type 0} (xs : List A) (x : A) (k : ℕ) (a : A) → slice_get (xs ++ x ∷ []) k ≡ Some a
    → (slice_get xs k ≡ Some a) ⊎ ((k ≡ length xs) × (a ≡ x))
get_pushed [] x zero a h = inr (refl, cc h)
get_pushed [] x (suc k) a h = absurd (cc h)
get_pushed (y ∷ xs) x zero a h = inl h
get_pushed (y ∷ xs) x (suc k) a h = elim (get_pushed xs x k a h) [ inl e ↦ inl e | inr e ↦ inr (ap suc e.0, e.1) ]

-- so many cells of both rows
pub record AreColumns (now was : CircuitAndRows) (signal : Signal) (first n : ℕ) (above below : List (List ℕ)) : Type 0 where
  pub above_size : length above ≡ n
  pub below_size : length below ≡ n
  pub cells : (k : ℕ) (a b : List ℕ) → slice_get above k ≡ Some a → slice_get below k ≡ Some b
      → AreTwoCells now was signal (first + k) a b

-- a cell more in each
module _ (now was : CircuitAndRows) (signal : Signal) (first n : ℕ) (above below : List (List ℕ)) (cell old under : List ℕ) where
  columns_push : AreColumns now was signal first n above below → IsSignalCell now signal (first + n) cell
      → IsSignalCell was signal (first + n) old → IsBelow cell old under
      → AreColumns now was signal first (n + 1) (above ++ cell ∷ []) (below ++ under ∷ [])
  columns_push before here there is = record {
    above_size = length_push above cell ∙ ap (λ (m : ℕ). m + 1) before.above_size;
    below_size = length_push below under ∙ ap (λ (m : ℕ). m + 1) before.below_size;
    cells = λ k a b ha hb. elim (get_pushed above cell k a ha) [
      | inl x ↦ elim (get_pushed below under k b hb) [
        | inl y ↦ before.cells k a b x y
        | inr y ↦ absurd (omega (arith, slice_get_within above k a x, y.0, before.above_size, before.below_size))
      ]
      | inr x ↦ elim (get_pushed below under k b hb) [
        | inl y ↦ absurd (omega (arith, slice_get_within below k b y, x.0, before.above_size, before.below_size))
        | inr y ↦
            let place : first + n ≡ first + k = omega (arith, x.0, before.above_size) in
            subst (λ t. AreTwoCells now was signal t a b) place
            (subst (λ u. AreTwoCells now was signal (first + n) u b) (sym x.1)
            (subst (AreTwoCells now was signal (first + n) cell) (sym y.1) (old, here, there, is)))
      ]
    ];
  }

-- the same at a frame
pub columns_more : (now was : CircuitAndRows) (signal : Signal) (first t : ℕ) (above below above' below' : List (List ℕ))
    (cell old under : List ℕ) → first ≤ t → AreColumns now was signal first (t - first) above below
    → IsSignalCell now signal t cell → IsSignalCell was signal t old → IsBelow cell old under → above' ≡ above ++ cell ∷ []
    → below' ≡ below ++ under ∷ [] → AreColumns now was signal first (t + 1 - first) above' below'
columns_more now was signal first t above below above' below' cell old under le before here there is e f =
    let here' : IsSignalCell now signal (first + (t - first)) cell = subst (λ u. IsSignalCell now signal u cell) at here in
    let there' : IsSignalCell was signal (first + (t - first)) old = subst (λ u. IsSignalCell was signal u old) at there in
    let all = columns_push now was signal first (t - first) above below cell old under before here' there' is in
    subst (λ n. AreColumns now was signal first n above' below') size
    (subst (λ xs. AreColumns now was signal first ((t - first) + 1) xs below') (sym e)
    (subst (AreColumns now was signal first ((t - first) + 1) (above ++ cell ∷ [])) (sym f) all))
  where
    at : t ≡ first + (t - first)
    at = omega (arith, le)

    size : (t - first) + 1 ≡ t + 1 - first
    size = omega (arith, le)

pub columns_begin : (now was : CircuitAndRows) (signal : Signal) (first : ℕ) (above below : List (List ℕ)) → above ≡ [] → below ≡ []
    → AreColumns now was signal first (first - first) above below
columns_begin now was signal first above below e f =
    let none : 0 ≡ first - first = omega arith in
    rw (e, f) (subst (λ n. AreColumns now was signal first n [] []) none
    (record { above_size = refl; below_size = refl; cells = λ k a b ha hb. absurd (cc ha) }))

pub two_rows_are : (now was : CircuitAndRows) (signal : Signal) (first t end : ℕ) (above below : TableRow) → t ≡ end → above.name ≡ signal.name
    → AreColumns now was signal first (t - first) above.cells below.cells → AreTwoRows now was first (end - first) signal above below
two_rows_are now was signal first t end above below same name h = record {
  name = name;
  sizes = (h.above_size ∙ ap (λ (n : ℕ). n - first) same, h.below_size ∙ ap (λ (n : ℕ). n - first) same);
  cells = h.cells;
}
