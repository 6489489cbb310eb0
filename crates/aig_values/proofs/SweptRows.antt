-- Gates that are evaluated one after the other in a row with room for more cells.
use Rattle.std.proofs.Common.{◌≡◌, ℕ, suc, ◌<◌, Bool, List, [], ◌∷◌, length, map, All, fold, take, get_or, set, refl}
use Rattle.std.proofs.Common.{sym, ap, ap₂, ◌∙◌, subst, arith}
use Rattle.std.proofs.Math.Seq.{take-set-lt}
use Rattle.std.proofs.lemmas.List.{length-set, map-set}
use Rattle.std.proofs.lemmas.List.Elements.{All-set}
use Rattle.std.proofs.lemmas.Option.{slice_get_within}
use Rattle.aig_parts.specs.declared.ternary.Tern.{Tern}
use Rattle.aig_parts.specs.declared.gate.Gate.{Gate}
use Rattle.aig_parts.specs.Literal.{variable}
use Rattle.aig_parts.specs.Ternary.{kleene_and}
use Rattle.aig_values.specs.Cells.{Cells, HasCells, HasVariablesBelow, gate_value, with_gate_value, with_swept_row}
use Rattle.aig_values.specs.state.Padded.{ArePadded, IsPadded}
use Rattle.aig_values.proofs.PaddedRows.{literal_of_row, padded_set, seen}
use Rattle.aig_values.proofs.SeenRows.{first_cells, has_cell, padded_row, taken}

swept_padded : (n room : ℕ) (row : List Tern) (gates : List Gate) → All (HasVariablesBelow n) gates → IsPadded n room row
    → IsPadded n room (fold with_gate_value row gates)
swept_padded n room row [] all p = p
swept_padded n room row (g ∷ gates) all p =
    swept_padded n room (with_gate_value row g) gates (λ k d lt. all (suc k) d (omega arith))
    (padded_set n room row (variable g.lhs) (gate_value row g) p (all 0 g (omega arith)).lhs)

taken_gate : (n : ℕ) (row : List Tern) (g : Gate) → HasVariablesBelow n g → take n (with_gate_value row g) ≡ with_gate_value (take n row) g
taken_gate n row g places =
    take-set-lt n row (variable g.lhs) (gate_value row g) places.lhs
    ∙ ap (set (take n row) (variable g.lhs))
    (sym (ap₂ kleene_and (literal_of_row n row g.rhs0 places.rhs0) (literal_of_row n row g.rhs1 places.rhs1)))

swept_taken : (n : ℕ) (row : List Tern) (gates : List Gate) → All (HasVariablesBelow n) gates
    → take n (fold with_gate_value row gates) ≡ fold with_gate_value (take n row) gates
swept_taken n row [] all = refl
swept_taken n row (g ∷ gates) all =
    swept_taken n (with_gate_value row g) gates (λ k d lt. all (suc k) d (omega arith))
    ∙ ap (λ (r : List Tern). fold with_gate_value r gates) (taken_gate n row g (all 0 g (omega arith)))

-- a row of a grid that a caller names, and gates that can be evaluated
module _ {A : Type 0} (cells : A → List Tern) (items : List A) {n room count : ℕ} {flags : List Bool}
    (are : ArePadded n room flags (map cells items)) {grid : Cells}
    (view : seen n room (map cells items) flags count ≡ grid) {t : ℕ} (frame : t < length grid.cells)
    {row : A} (is : row ≡ get_or items t row) (gates : List Gate) (all : All (HasCells grid.gate_flags) gates) where
  places : All (HasVariablesBelow n) gates
  places k d lt =
      let h = all k d lt in
      let first = first_cells cells items are view frame is in
      record {
        lhs = first _ (slice_get_within grid.gate_flags _ _ h.gate);
        rhs0 = first _ h.rhs0;
        rhs1 = first _ h.rhs1;
      }

  pub row_places : All (HasVariablesBelow (length (cells row))) gates
  row_places k d lt =
      let h = all k d lt in
      let there = has_cell cells items are view frame is in
      record {
        lhs = there _ (slice_get_within grid.gate_flags _ _ h.gate);
        rhs0 = there _ h.rhs0;
        rhs1 = there _ h.rhs1;
      }

  module _ (new : A) (e : cells new ≡ fold with_gate_value (cells row) gates) where
    pub swept_padded_items : ArePadded n room flags (map cells (set items t new))
    swept_padded_items =
        let rows = map cells items in
        let row_padded = padded_row cells items are view frame is in
        subst (ArePadded n room flags) (sym (map-set cells items t new)) (record {
          count = omega (arith, length-set rows t (cells new), are.count);
          constant = are.constant;
          fits = are.fits;
          limit = are.limit;
          flagged = are.flagged;
          each = All-set (IsPadded n room) rows t (cells new)
              (subst (IsPadded n room) (sym e) (swept_padded n room (cells row) gates places row_padded)) are.each;
        })

    pub swept_items : map (take n) (map cells (set items t new)) ≡ with_swept_row grid.cells t gates
    swept_items =
        ap (map (take n)) (map-set cells items t new) ∙ map-set (take n) (map cells items) t (cells new)
        ∙ ap (λ (c : List (List Tern)). set c t (take n (cells new))) (ap (λ (g : Cells). g.cells) view)
        ∙ ap (set grid.cells t)
        (ap (take n) e ∙ swept_taken n (cells row) gates places
        ∙ ap (λ (r : List Tern). fold with_gate_value r gates) (sym (taken cells items are view frame is)))
