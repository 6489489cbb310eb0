-- DrivenCircuit and grids after an edit.
use Rattle.std.proofs.Common.{◌≡◌, ℕ, zero, suc, ◌+◌, ◌-◌, ◌*◌, ◌<◌, ◌≤◌, Bool, List, [], ◌∷◌, ◌++◌, length, map, take}
use Rattle.std.proofs.Common.{Some, slice_get, refl, sym, ap, ◌∙◌, subst, arith, length-append, length-take}
use Rattle.std.proofs.lemmas.List.{get_or-take, get_or_append_left}
use Rattle.std.proofs.lemmas.List.Elements.{All-take, All-append}
use Rattle.std.proofs.lemmas.Option.{slice_get-get_or, same_Some}
use Rattle.std.proofs.Math.Nat.{mul-le-mul_left}
use Rattle.aig_parts.specs.declared.ternary.Tern.{Tern}
use Rattle.aig_parts.specs.declared.raw.Raw.{Raw}
use Rattle.aig_base.specs.Changes.{restarted, with_reset}
use Rattle.aig_base.specs.Grounded.{IsSource, Level}
use Rattle.aig_base.specs.Levels.{AreLevels}
use Rattle.aig_base.specs.Readers.{ReaderLists, AreReaders}
use Rattle.aig_base.specs.Grounded as grounded
use Rattle.aig_parts.specs.declared.latch.Latch.{Latch}
use Rattle.aig_parts.specs.Literal.{variable}
use Rattle.aig_base.specs.Value.{start_of}
use Rattle.aig_base.proofs.rewires.Rewiring.{with_reset-circuit}
use Rattle.aig_values.specs.InputRows.{InputRows, row_at, HaveWidth}
use Rattle.aig_parts.specs.Limits.{cell_limit, frame_limit}
use Rattle.aig_bench.specs.declared.engine.driven_circuit.DrivenCircuit.{DrivenCircuit}
use Rattle.aig_bench.specs.BenchState.{CircuitAndRows}
use Rattle.aig_bench.specs.state.Current.{AreGateFlags, AreRows, IsLaidOut, HoldsInPair, AreCurrent, IsBench}
use Rattle.aig_values.specs.Cells.{fresh_row}
use Rattle.aig_bench.proofs.cells.NewGrids.{rows_more}
use Rattle.aig_bench.specs.state.DrivenCircuit.{IsDriven, pair_of}
use Rattle.aig_bench.proofs.cells.Earlier.{value_before}

-- rows and cells that agree below a frame: cells that are values stay values
pub current_below : (p : CircuitAndRows) (n m : ℕ) (rows : List (List Tern)) (cells cells' : List (List Tern)) → AreCurrent p n cells
    → m ≤ n → ((t : ℕ) → t < m → slice_get rows t ≡ slice_get p.rows t)
    → ((t : ℕ) → t < m → row_at cells' t ≡ row_at cells t)
    → AreCurrent (record p { rows = rows }) m cells'
current_below p n m rows cells cells' h le same rest = record {
  each = λ u lt v d. still u lt v (h.each u (omega arith) v d);
}
  where
    still : (u : ℕ) → u < m → (v : ℕ) → HoldsInPair p u (row_at cells u) v → HoldsInPair (record p { rows = rows }) u (row_at cells' u) v
    still u lt v k = record {
      cell = k.cell;
      cell_is = ap (λ (row : List Tern). slice_get row v) (rest u lt) ∙ k.cell_is;
      value_is = value_before p.circuit (start_of p.circuit) p.rows rows m same lt k.value_is;
    }

-- a driven circuit with other rows
pub driven_with_rows : (driven : DrivenCircuit) (s : InputRows) (rows : List (List Tern)) → IsDriven driven
    → s ≡ record driven.stimulus { rows = rows } → HaveWidth driven.stimulus.width rows → length rows ≤ frame_limit
    → (driven.circuit.max_var + 1) * length rows ≤ cell_limit → IsDriven (record driven { stimulus = s })
driven_with_rows driven s rows p e widths frames cells =
    subst (λ (x : InputRows). IsDriven (record driven { stimulus = x })) (sym e)
    (record { circuit = p.circuit; width = p.width; widths = widths; frames = frames; cells = cells })

pub slice_get_take : {X : Type 0} (n : ℕ) (xs : List X) (t : ℕ) (d : X) → n ≤ length xs → t < n → slice_get (take n xs) t ≡ slice_get xs t
slice_get_take n xs t d le lt =
    slice_get-get_or (take n xs) t d (omega (arith, length-take n xs)) ∙ ap Some (get_or-take n xs t d lt)
    ∙ sym (slice_get-get_or xs t d (omega arith))

pub slice_get_append : {X : Type 0} (xs ys : List X) (t : ℕ) (d : X) → t < length xs → slice_get (xs ++ ys) t ≡ slice_get xs t
slice_get_append xs ys t d lt =
    slice_get-get_or (xs ++ ys) t d (omega (arith, length-append xs ys)) ∙ ap Some (get_or_append_left xs ys d t lt)
    ∙ sym (slice_get-get_or xs t d lt)

fewer_cells : (a n : ℕ) → a * n ≤ cell_limit → a * (n - 1) ≤ cell_limit
fewer_cells a n le = omega (arith, mul-le-mul_left a (let k : n - 1 ≤ n = omega arith in k))

-- the last frame taken off
pub bench_dropped : (driven : DrivenCircuit) (s : InputRows) (flags flags' : List Bool) (cells cells' : List (List Tern))
    → IsBench driven flags cells → s ≡ record driven.stimulus { rows = take (length driven.stimulus.rows - 1) driven.stimulus.rows }
    → cells' ≡ take (length cells - 1) cells → flags' ≡ flags
    → IsBench (record driven { stimulus = s }) flags' cells'
bench_dropped driven s flags flags' cells cells' b e is same =
    let n = length driven.stimulus.rows in
    let rows = take (n - 1) driven.stimulus.rows in
    let size : length rows ≡ n - 1 = omega (arith, length-take (n - 1) driven.stimulus.rows) in
    let frames = b.laid_out.rows_are.frames_are in
    let cell_size : length cells' ≡ n - 1 = ap length is ∙ omega (arith, length-take (length cells - 1) cells, frames) in
    let row_is : (t : ℕ) → t < n - 1 → row_at cells' t ≡ row_at cells t =
    λ t lt. ap (λ (c : List (List Tern)). row_at c t) is ∙ get_or-take (length cells - 1) cells t [] (omega (arith, frames)) in
    subst (λ (x : InputRows). IsBench (record driven { stimulus = x }) flags' cells') (sym e)
    (record {
      driven_is = driven_with_rows driven _ rows b.driven_is refl
          (All-take (λ row. length row ≡ driven.stimulus.width) (n - 1) driven.stimulus.rows b.driven_is.widths)
          (omega (arith, b.driven_is.frames))
          (rw size (fewer_cells (driven.circuit.max_var + 1) n b.driven_is.cells));
      laid_out = record {
        flags_are = subst (AreGateFlags driven.circuit) (sym same) b.laid_out.flags_are;
        rows_are = record {
          frames_are = cell_size ∙ sym size;
          widths = λ t lt. ap length (row_is t (omega arith)) ∙ b.laid_out.rows_are.widths t (omega arith);
          constants = λ t lt. ap (λ (r : List Tern). slice_get r 0) (row_is t (omega arith))
              ∙ b.laid_out.rows_are.constants t (omega arith);
        };
      };
      current = current_below (pair_of driven) n (length rows) rows cells cells' b.current (omega arith)
          (λ t lt. slice_get_take (n - 1) driven.stimulus.rows t [] (omega arith) (omega arith))
          (λ t lt. row_is t (omega arith));
    })

swapped : (m n k : ℕ) → (m + 1) * k ≤ n → k * (m + 1) ≤ n
swapped m n k le = grind arith

-- a row that is added has room
pub room_added : (driven : DrivenCircuit) (flags : List Bool) (cells : List (List Tern)) → IsLaidOut driven flags cells
    → (driven.circuit.max_var + 1) * (length driven.stimulus.rows + 1) ≤ cell_limit
    → (length cells + 1) * length flags ≤ cell_limit
room_added driven flags cells h le =
    let e : length flags ≡ driven.circuit.max_var + 1 = h.flags_are.size in
    let f : length cells ≡ length driven.stimulus.rows = h.rows_are.frames_are in
    rw (e, f) (swapped driven.circuit.max_var cell_limit (length driven.stimulus.rows + 1) le)

one_row : (width : ℕ) (row : List Tern) → length row ≡ width → HaveWidth width (row ∷ [])
one_row width row e zero d lt = e
one_row width row e (suc k) d lt = absurd (omega arith)

module _ (driven : DrivenCircuit) (s : InputRows) (row : List Tern) (p : IsDriven driven)
    (e : s ≡ record driven.stimulus { rows = driven.stimulus.rows ++ row ∷ [] }) (wide : length row ≡ driven.stimulus.width)
    (few : length driven.stimulus.rows < frame_limit)
    (limit : (driven.circuit.max_var + 1) * (length driven.stimulus.rows + 1) ≤ cell_limit) where
  more : length (driven.stimulus.rows ++ row ∷ []) ≡ length driven.stimulus.rows + 1
  more = length-append driven.stimulus.rows (row ∷ [])

  pub driven_added : IsDriven (record driven { stimulus = s })
  driven_added = driven_with_rows driven s (driven.stimulus.rows ++ row ∷ []) p e
      (All-append (λ row. length row ≡ driven.stimulus.width) driven.stimulus.rows (row ∷ []) p.widths
      (one_row driven.stimulus.width row wide))
      (omega (arith, more)) (rw more limit)

  pub current_added : (cells cells' more_cells : List (List Tern)) → AreCurrent (pair_of driven) (length driven.stimulus.rows) cells
      → length cells ≡ length driven.stimulus.rows → cells' ≡ cells ++ more_cells
      → AreCurrent (pair_of (record driven { stimulus = s })) (length driven.stimulus.rows) cells'
  current_added cells cells' more_cells h size is =
      subst (λ (x : InputRows). AreCurrent (pair_of (record driven { stimulus = x })) (length driven.stimulus.rows) cells') (sym e)
      (current_below (pair_of driven) (length driven.stimulus.rows) (length driven.stimulus.rows)
      (driven.stimulus.rows ++ row ∷ []) cells cells' h (omega arith)
      (λ t lt. slice_get_append driven.stimulus.rows (row ∷ []) t [] lt)
      (λ t lt. ap (λ (c : List (List Tern)). row_at c t) is ∙ get_or_append_left cells more_cells [] t (omega (arith, size))))

-- a driven circuit whose latch starts otherwise
pub driven_restarted : (driven : DrivenCircuit) (c : Raw) (lit : ℕ) (w : Tern) → IsDriven driven → c ≡ with_reset driven.circuit lit w
    → IsDriven (record driven { circuit = c })
driven_restarted driven c lit w p e =
    subst (λ (x : Raw). IsDriven (record driven { circuit = x })) (sym e)
    (record {
      circuit = with_reset-circuit lit w driven.circuit p.circuit;
      width = p.width;
      widths = p.widths;
      frames = p.frames;
      cells = p.cells;
    })

pub laid_out_restarted : (driven : DrivenCircuit) (c : Raw) (lit : ℕ) (w : Tern) (flags : List Bool) (cells : List (List Tern))
    → IsLaidOut driven flags cells → c ≡ with_reset driven.circuit lit w → IsLaidOut (record driven { circuit = c }) flags cells
laid_out_restarted driven c lit w flags cells h e =
    subst (λ (x : Raw). IsLaidOut (record driven { circuit = x }) flags cells) (sym e)
    (record {
      flags_are = record { size = h.flags_are.size; gates = h.flags_are.gates; others = h.flags_are.others };
      rows_are = record {
        frames_are = h.rows_are.frames_are;
        widths = h.rows_are.widths;
        constants = h.rows_are.constants;
      };
    })

-- levels and readers do not depend on resets
level_restarted : (raw : Raw) (lit : ℕ) (w : Tern) → {v n : ℕ} → Level (with_reset raw lit w) v n → Level raw v n
level_restarted raw lit w (grounded.Level.source v s) = grounded.Level.source v (source_was v s)
  where
    latch_was : (xs : List Latch) (p : ℕ) (x : Latch) → slice_get (map (restarted lit w) xs) p ≡ Some x
        → (y : Latch) × (slice_get xs p ≡ Some y) × (y.lit ≡ x.lit)
    latch_was [] p x at = absurd (cc)
    latch_was (y ∷ xs) zero x at = (y, refl, ap (λ (z : Latch). z.lit) (same_Some _ x at))
    latch_was (y ∷ xs) (suc p) x at = latch_was xs p x at

    source_was : (v : ℕ) → IsSource (with_reset raw lit w) v → IsSource raw v
    source_was v grounded.IsSource.constant = grounded.IsSource.constant
    source_was v (grounded.IsSource.input p l at) = grounded.IsSource.input p l at
    source_was v (grounded.IsSource.latch p x at) =
        let (y, here, e) = latch_was raw.latches p x at in
        subst (λ (l : ℕ). IsSource raw (variable l)) e (grounded.IsSource.latch p y here)
level_restarted raw lit w (grounded.Level.gate q g a b at la lb) =
    grounded.Level.gate q g a b at (level_restarted raw lit w la) (level_restarted raw lit w lb)

pub levels_restarted : (raw c : Raw) (lit : ℕ) (w : Tern) (levels : List ℕ) → AreLevels raw levels
    → c ≡ with_reset raw lit w → AreLevels c levels
levels_restarted raw c lit w levels h e =
    subst (λ (x : Raw). AreLevels x levels) (sym e)
    (record { size = h.size; each = λ v n l. h.each v n (level_restarted raw lit w l) })

pub readers_restarted : (raw c : Raw) (lit : ℕ) (w : Tern) (readers : ReaderLists) → AreReaders raw readers
    → c ≡ with_reset raw lit w → AreReaders c readers
readers_restarted raw c lit w readers h e =
    subst (λ (x : Raw). AreReaders x readers) (sym e) (record { size = h.size; each = h.each; once = h.once })

-- a grid with one row more, for a driven circuit with one frame more
pub laid_out_added : (driven : DrivenCircuit) (s : InputRows) (row : List Tern) (flags flags' : List Bool) (cells cells' : List (List Tern))
    → IsLaidOut driven flags cells → s ≡ record driven.stimulus { rows = driven.stimulus.rows ++ row ∷ [] }
    → cells' ≡ cells ++ fresh_row (length flags) ∷ [] → flags' ≡ flags → IsLaidOut (record driven { stimulus = s }) flags' cells'
laid_out_added driven s row flags flags' cells cells' h e is same =
    subst (λ (x : InputRows). IsLaidOut (record driven { stimulus = x }) flags' cells') (sym e)
    (record {
      flags_are = subst (AreGateFlags driven.circuit) (sym same) h.flags_are;
      rows_are = subst (λ (n : ℕ). AreRows driven.circuit n cells') (sym (length-append driven.stimulus.rows (row ∷ [])))
          (rows_more driven.circuit (length driven.stimulus.rows) flags cells cells' h.rows_are h.flags_are.size is);
    })
