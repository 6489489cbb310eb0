-- Rows that are seen as lists of their cells, however they keep these.
use Rattle.std.proofs.Common.{◌≡◌, ℕ, ◌<◌, Bool, List, [], ◌∷◌, length, map, take, All, Some, slice_get, get_or, set}
use Rattle.std.proofs.Common.{sym, ap, ◌∙◌, subst, arith}
use Rattle.std.proofs.lemmas.List.{length-map, length-take, get_or-map, get_or-take, map-set, ext_get_or}
use Rattle.std.proofs.lemmas.Option.{slice_get-get_or}
use Rattle.aig_parts.specs.declared.ternary.Tern.{Tern}
use Rattle.aig_parts.specs.declared.ternary.Tern.TheVariants.{X}
use Rattle.aig_parts.specs.Literal.{variable}
use Rattle.aig_values.specs.Cells.{Cells, literal_value}
use Rattle.aig_values.specs.InputRows.{with_cell, row_at}
use Rattle.aig_values.specs.state.Padded.{ArePadded, IsPadded}
use Rattle.aig_values.specs.Characters.{character}
use Rattle.aig_values.specs.TraceText.{literal_character}
use Rattle.aig_values.proofs.PaddedRows.{Reached, reached, seen, literal_of_row, rows_padded, rows_written, cell_after}

module _ {A : Type 0} (cells : A → List Tern) where
  pub item_seen : (items : List A) (t : ℕ) (row : A) → t < length items → row ≡ get_or items t row
      → cells row ≡ get_or (map cells items) t (cells row)
  item_seen items t row lt is = ap cells is ∙ sym (get_or-map cells items t row (cells row) lt)

  pub all_seen : (P : List Tern → Type 0) (items : List A) → All (λ x. P (cells x)) items → All P (map cells items)
  all_seen P [] all = λ k d lt. absurd (omega arith)
  all_seen P (x ∷ items) all = λ k d lt.
      let within : k < length (x ∷ items) = omega (arith, length-map (x ∷ items) cells) in
      subst P (sym (get_or-map cells (x ∷ items) k x d within)) (all k x within)

  pub all_items : (P : List Tern → Type 0) (items : List A) → All P (map cells items) → All (λ x. P (cells x)) items
  all_items P items all = λ k d lt.
      subst P (get_or-map cells items k d [] lt) (all k [] (omega (arith, length-map items cells)))

  -- a row of a grid that a caller names
  module _ (items : List A) {n room count : ℕ} {flags : List Bool} (are : ArePadded n room flags (map cells items))
      {grid : Cells} (view : seen n room (map cells items) flags count ≡ grid) {t : ℕ} (frame : t < length grid.cells)
      {row : A} (is : row ≡ get_or items t row) where
    pub row_seen : cells row ≡ get_or (map cells items) t (cells row)
    row_seen =
        let sizes = ap (λ (g : Cells). length g.cells) view in
        item_seen items t row (omega (arith, sizes, length-map (map cells items) (take n), length-map items cells)) is

    pub reached_item : (v : ℕ) (b : Bool) → slice_get grid.gate_flags v ≡ Some b → Reached n (map cells items) grid t (cells row) v
    reached_item v b flag =
        reached n room count (map cells items) flags grid view are t frame (cells row) row_seen v b flag

    within : t < length (map cells items)
    within = omega (arith, ap (λ (g : Cells). length g.cells) view, length-map (map cells items) (take n))

    pub taken : row_at grid.cells t ≡ take n (cells row)
    taken =
        ap (λ (g : Cells). row_at g.cells t) (sym view) ∙ get_or-map (take n) (map cells items) t (cells row) [] within
        ∙ ap (take n) (sym row_seen)

    pub first_cells : (v : ℕ) → v < length grid.gate_flags → v < n
    first_cells v lt = omega (arith, ap (λ (g : Cells). length g.gate_flags) view, are.flagged)

    pub padded_row : IsPadded n room (cells row)
    padded_row = subst (IsPadded n room) (sym row_seen) (are.each t (cells row) within)

    pub has_cell : (v : ℕ) → v < length grid.gate_flags → v < length (cells row)
    has_cell v lt = omega (arith, first_cells v lt, padded_row.0, are.fits)

    pub read_cell : (v : ℕ) → v < length grid.gate_flags → slice_get (row_at grid.cells t) v ≡ slice_get (cells row) v
    read_cell v lt =
        let small = first_cells v lt in
        let wide = has_cell v lt in
        ap (λ (r : List Tern). slice_get r v) taken
        ∙ slice_get-get_or (take n (cells row)) v X (omega (arith, length-take n (cells row)))
        ∙ ap Some (get_or-take n (cells row) v X small) ∙ sym (slice_get-get_or (cells row) v X wide)

    pub read_literal : (l : ℕ) → variable l < length grid.gate_flags
        → literal_value (row_at grid.cells t) l ≡ literal_value (cells row) l
    read_literal l lt =
        ap (λ (r : List Tern). literal_value r l) taken
        ∙ literal_of_row n (cells row) l (first_cells (variable l) lt)

    pub read_character : (l : ℕ) → variable l < length grid.gate_flags
        → literal_character (row_at grid.cells t) l ≡ literal_character (cells row) l
    read_character l lt = ap character (read_literal l lt)

    pub have_cells : (ls : List ℕ) → All (λ l. variable l < length grid.gate_flags) ls
        → All (λ l. variable l < length (cells row)) ls
    have_cells ls all = λ k d lt. has_cell (variable (get_or ls k d)) (all k d lt)

    pub read_characters : (ls : List ℕ) → All (λ l. variable l < length grid.gate_flags) ls
        → map (literal_character (cells row)) ls ≡ map (literal_character (row_at grid.cells t)) ls
    read_characters ls all =
        ext_get_or 0 (map (literal_character (cells row)) ls) (map (literal_character (row_at grid.cells t)) ls)
        (length-map ls (literal_character (cells row)) ∙ sym (length-map ls (literal_character (row_at grid.cells t)))) (λ i lt.
        let within : i < length ls = omega (arith, length-map ls (literal_character (cells row))) in
        get_or-map (literal_character (cells row)) ls i 0 0 within ∙ sym (read_character (get_or ls i 0) (all i 0 within))
        ∙ sym (get_or-map (literal_character (row_at grid.cells t)) ls i 0 0 within))

  -- the rows with another cell
  module _ {n : ℕ} (items : List A) {grid : Cells} {t : ℕ} {row : List Tern} {v : ℕ}
      (r : Reached n (map cells items) grid t row v) (x : Tern) (new : A) (e : cells new ≡ set row v x) where
    pub items_padded : (room : ℕ) (flags : List Bool) → ArePadded n room flags (map cells items)
        → ArePadded n room flags (map cells (set items t new))
    items_padded room flags are =
        subst (ArePadded n room flags) (sym (map-set cells items t new)) (rows_padded r room flags x (cells new) e are)

    pub items_written : map (take n) (map cells (set items t new)) ≡ with_cell grid.cells t v x
    items_written = ap (map (take n)) (map-set cells items t new) ∙ rows_written r x (cells new) e

    pub item_after : (room : ℕ) (flags : List Bool) → ArePadded n room flags (map cells items)
        → get_or (row_at (map (take n) (map cells (set items t new))) t) v X ≡ x
    item_after room flags are =
        ap (λ (rows : List (List Tern)). get_or (row_at (map (take n) rows) t) v X) (map-set cells items t new)
        ∙ cell_after r room flags x (cells new) e are
