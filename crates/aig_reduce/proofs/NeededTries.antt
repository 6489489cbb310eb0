-- Values that are needed are not tried: what is tried there is not confirmed.
use Rattle.std.proofs.Common.{◌≡◌, ◌≢◌, inl, inr, ℕ, zero, suc, ◌+◌, ◌-◌, ◌*◌, ◌≤◌, List, [], ◌∷◌, length, drop, get_or}
use Rattle.std.proofs.Common.{Some, slice_get, slice_set, refl, sym, ap, ◌∙◌, subst, arith}
use Rattle.std.specs.List.{AllZip}
use Rattle.std.proofs.lemmas.Bool.{cases_eq, cases_lt}
use Rattle.std.proofs.lemmas.List.{get_or-drop}
use Rattle.std.proofs.lemmas.Option.{get_or_from_slice_get, same_Some}
use Rattle.std.proofs.lemmas.Slice.Zip.{AllZip-long}
use Rattle.aig_parts.specs.declared.ternary.Tern.{Tern}
use Rattle.aig_parts.specs.declared.ternary.Tern.TheVariants.{One, X}
use Rattle.aig_parts.specs.declared.raw.Raw.{Raw}
use Rattle.aig_base.specs.Circuit.{IsCircuit}
use Rattle.aig_base.specs.Value.{Value}
use Rattle.aig_sim.specs.WitnessText.{Witness}
use Rattle.aig_values.specs.InputRows.{row_at, with_cell}
use Rattle.aig_bench.specs.BenchState.{CircuitAndRows}
use Rattle.aig_bench.proofs.cells.CellLemmas.{get_set_same, row_written}
use Rattle.aig_reduce.specs.declared.needed.Known.{Known}
use Rattle.aig_reduce.specs.Irreducible.{IsConfirmedWitness, IsSameOrX}
use Rattle.aig_reduce.specs.Reduction.{values_of, witness_of}
use Rattle.aig_reduce.specs.state.Needed.{AreNeededCells, AreNeededCellsIn, AreNeededIn, AreNeededInputs, AreNeededStarts}
use Rattle.aig_reduce.specs.state.Needed.{Breaks, Knows, StillReaches}
use Rattle.aig_reduce.specs.state.Places.{AreTried, IsPlace}
use Rattle.aig_reduce.specs.state.Reducing.{Clearing, Confirms, Reducing, Runs}
use Rattle.aig_reduce.proofs.Irreducibles.{CoverRow, CoverRows, cell_covers, cover_shape, rows_cover, rows_then, run_of}
use Rattle.aig_reduce.proofs.Irreducibles.{run_shaped}
use Rattle.aig_reduce.proofs.Places.{tried_more}
use Rattle.aig_base.proofs.values.Resets.{other_resets_back, value_with}
use Rattle.aig_base.specs.Readers.{AreReaders}
use Rattle.aig_reduce.proofs.RunLemmas.{confirmed_reaches}

-- ---- values that were tried are the given ones or x

later_item : {A : Type 0} (d : A) (xs ys : List A) (n i : ℕ) → n ≤ i → drop n xs ≡ drop n ys → get_or xs i d ≡ get_or ys i d
later_item d xs ys n i le e =
    let split : n + (i - n) ≡ i = omega (arith, le) in
    subst (λ (k : ℕ). get_or xs k d ≡ get_or ys k d) split
    (sym (get_or-drop n xs (i - n) d) ∙ ap (λ (zs : List _). get_or zs (i - n) d) e ∙ get_or-drop n ys (i - n) d)

later_value : (xs ys : List Tern) (n i : ℕ) (a b : Tern) → n ≤ i → drop n xs ≡ drop n ys → slice_get xs i ≡ Some a
    → slice_get ys i ≡ Some b → a ≡ b
later_value xs ys n i a b le e at is =
    sym (get_or_from_slice_get xs i a X at) ∙ later_item X xs ys n i le e ∙ get_or_from_slice_get ys i b X is

module _ (C : List (List Tern) → Type 0) (given now : List (List Tern)) (t p : ℕ) (h : AreTried C given now t p) where
  tried_covers : CoverRows now given
  tried_covers = rows_cover now given h.shape (λ u q a b at is. elim (cases_lt u t) [
    | inl below ↦ elim (h.kept u q a b (inl below) at is) [ inl k ↦ inl k.1 | inr k ↦ inr k.1 ]
    | inr from ↦ elim (cases_eq u t) [
      | inl e ↦ elim (cases_lt q p) [
        | inl less ↦ elim (h.kept u q a b (inr (e, less)) at is) [ inl k ↦ inl k.1 | inr k ↦ inr k.1 ]
        | inr more ↦
            let is' : slice_get (row_at now t) q ≡ Some b = subst (λ (v : ℕ). slice_get (row_at now v) q ≡ Some b) e is in
            let at' : slice_get (row_at given t) q ≡ Some a = subst (λ (v : ℕ). slice_get (row_at given v) q ≡ Some a) e at in
            inr (later_value (row_at now t) (row_at given t) p q b a more h.here is' at')
      ]
      | inr other ↦
          let same : row_at now u ≡ row_at given u = later_item [] now given (suc t) u (omega (arith, from, other)) h.later in
          inr (same_Some b a (sym is ∙ ap (λ (row : List Tern). slice_get row q) same ∙ at))
    ]
  ])

x_there : (now : List (List Tern)) (t p : ℕ) → IsPlace now t p → slice_get (row_at (with_cell now t p X) t) p ≡ Some X
x_there now t p place =
    ap (λ (row : List Tern). slice_get row p) (row_written now t p X place.0) ∙ get_set_same (row_at now t) p X place.1

-- ---- a needed value

module _ (raw : Raw) (given : Witness) (needed : List (List Tern)) (all : AreNeededIn raw given needed) (property : ℕ)
    (named : property ≡ given.property) (t p : ℕ) (w : Tern) (at : slice_get (row_at needed t) p ≡ Some w) (n : w ≢ X) where
  denied : (now : List (List Tern)) → IsPlace now t p → AreTried (Confirms raw property) (values_of given) now t p
      → Confirms raw property (with_cell now t p X) → ⊥
  denied now place h c =
      all t p w at n (with_cell now t p X)
      (rows_then (with_cell now t p X) now (values_of given) (cell_covers now t p)
      (tried_covers (Confirms raw property) (values_of given) now t p h))
      (subst (λ (m : ℕ). Confirms raw m (with_cell now t p X)) named c) (x_there now t p place)

  needed_stays : (now : List (List Tern)) → IsPlace now t p → AreTried (Confirms raw property) (values_of given) now t p
      → AreTried (Confirms raw property) (values_of given) now t (suc p)
  needed_stays now place h =
      tried_more (Confirms raw property) (values_of given) now t p place.0 place.1 h now (inr (denied now place h, refl))

  pub reducing_needed : (pair : CircuitAndRows) (start : List Tern) → IsPlace (start ∷ pair.rows) t p
      → Reducing raw given pair property start t p → Reducing raw given pair property start t (suc p)
  reducing_needed pair start place h = record {
    runs = h.runs;
    property_is = h.property_is;
    tried = needed_stays (start ∷ pair.rows) place h.tried;
  }

  pub clearing_needed : (pair : CircuitAndRows) (start : List Tern) (first : ℕ) → IsPlace (start ∷ pair.rows) t p
      → Clearing raw given pair property start first t p → Clearing raw given pair property start first t (suc p)
  clearing_needed pair start first place h = record {
    circuit = h.circuit;
    runs = h.runs;
    run = h.run;
    property_is = h.property_is;
    starts = h.starts;
    from = h.from;
    constrained = h.constrained;
    tried = λ c. needed_stays (start ∷ pair.rows) place (h.tried c);
  }

-- ---- what a look back over the run of a confirmed witness shows of it

module _ (raw : Raw) (given : Witness) (circuit : IsCircuit raw) (g : IsConfirmedWitness raw given) (pair : CircuitAndRows)
    (h : Runs raw pair given.start) (rows_are : pair.rows ≡ given.rows) where
  still : (start : List Tern) (rows : List (List Tern)) → CoverRow start given.start → CoverRows rows given.rows
      → Confirms raw given.property (start ∷ rows) → StillReaches pair given.property start rows
  still start rows starts inputs c =
      let w = witness_of given.property (start ∷ rows) in
      let r = confirmed_reaches raw circuit w
      (run_shaped raw given.property (start ∷ rows) (values_of given)
      (sym (cover_shape (start ∷ rows) (values_of given) (starts, inputs))) (run_of raw given g)) c in
      let frames : length pair.rows ≡ length rows =
      ap length rows_are ∙ AllZip-long (AllZip IsSameOrX) rows given.rows inputs in
      record {
        starts = subst (λ (s : List Tern). CoverRow start s) (sym h.start_is) starts;
        inputs = subst (λ (rs : List (List Tern)). CoverRows rows rs) (sym rows_are) inputs;
        constrained = λ t i l lt at.
            value_with raw pair.circuit h.resets start rows
            (r.constrained t i l (omega (arith, lt, frames))
            (ap (λ (ls : List ℕ). slice_get ls i) (sym h.resets.constraints) ∙ at));
        bad = λ l at.
            subst (λ (n : ℕ). Value pair.circuit start rows (n - 1) l One) (sym frames)
            (value_with raw pair.circuit h.resets start rows
            (r.bad l (ap (λ (ls : List ℕ). slice_get ls given.property) (sym h.resets.bad) ∙ at)));
      }

  pub needed_in : (starts : List Tern) (inputs : List (List Tern)) → AreNeededStarts pair given.property starts
      → AreNeededInputs pair given.property inputs → AreNeededIn raw given (starts ∷ inputs)
  needed_in starts inputs a b t i w at n [] covers c x = absurd covers
  needed_in starts inputs a b zero i w at n (start ∷ rows) covers c x =
      a i w at n start rows (still start rows covers.0 covers.1 c) x
  needed_in starts inputs a b (suc t) i w at n (start ∷ rows) covers c x =
      b t i w at n start rows (still start rows covers.0 covers.1 c) x

  pub cells_in : (cells : List (List Tern)) → AreNeededCells pair given.property cells → AreNeededCellsIn raw given cells
  cells_in cells all t v w at n start rows covers c x =
      all t v w at n start rows (still start rows covers.0 covers.1 c) (value_with raw pair.circuit h.resets start rows x)

-- ---- x that makes x of what is needed

cell_there : (start : List Tern) (rows : List (List Tern)) (t p : ℕ)
    → (begin : List Tern) × (later : List (List Tern)) × (with_cell (start ∷ rows) t p X ≡ begin ∷ later)
cell_there start rows zero p = (slice_set start p X, rows, refl)
cell_there start rows (suc t) p = (start, with_cell rows t p X, refl)

module _ (raw : Raw) (given : Witness) (circuit : IsCircuit raw) (cells : List (List Tern)) (all : AreNeededCellsIn raw given cells)
    (property : ℕ) (named : property ≡ given.property) (pair : CircuitAndRows) (start : List Tern) (h : Runs raw pair start)
    (t p : ℕ) (place : IsPlace (start ∷ pair.rows) t p) (breaks : Breaks pair cells t p) where
  abbrev now : List (List Tern)
  now = start ∷ pair.rows

  broken_by : (begin : List Tern) (rows : List (List Tern)) → with_cell now t p X ≡ begin ∷ rows
      → IsConfirmedWitness raw (witness_of property now) → AreTried (Confirms raw property) (values_of given) now t p
      → Confirms raw property (with_cell now t p X) → ⊥
  broken_by begin rows e g tried c =
      let (u, v, w, n, at, follows) = breaks in
      let covers : CoverRows (begin ∷ rows) now = subst (λ (vs : List (List Tern)). CoverRows vs now) e (cell_covers now t p) in
      let c' : Confirms raw property (begin ∷ rows) = subst (λ (vs : List (List Tern)). Confirms raw property vs) e c in
      let s : StillReaches pair property begin rows =
      still raw (witness_of property now) circuit g pair h refl begin rows covers.0 covers.1 c' in
      let x : Value pair.circuit begin rows u (2 * v) X =
      follows property begin rows s
      (subst (λ (vs : List (List Tern)). slice_get (row_at vs t) p ≡ Some X) e (x_there now t p place)) in
      all u v w at n begin rows
      (rows_then (begin ∷ rows) now (values_of given) covers (tried_covers (Confirms raw property) (values_of given) now t p tried))
      (subst (λ (m : ℕ). Confirms raw m (begin ∷ rows)) named c')
      (value_with pair.circuit raw (other_resets_back raw pair.circuit h.resets) begin rows x)

  broken : IsConfirmedWitness raw (witness_of property now) → AreTried (Confirms raw property) (values_of given) now t p
      → Confirms raw property (with_cell now t p X) → ⊥
  broken = let (begin, rows, e) = cell_there start pair.rows t p in broken_by begin rows e

  broken_stays : IsConfirmedWitness raw (witness_of property now) → AreTried (Confirms raw property) (values_of given) now t p
      → AreTried (Confirms raw property) (values_of given) now t (suc p)
  broken_stays g tried =
      tried_more (Confirms raw property) (values_of given) now t p place.0 place.1 tried now (inr (broken g tried, refl))

pub reducing_broken : (raw : Raw) (given : Witness) (cells : List (List Tern)) → AreNeededCellsIn raw given cells
    → (pair : CircuitAndRows) (property : ℕ) (start : List Tern) (t p : ℕ) → IsPlace (start ∷ pair.rows) t p
    → Breaks pair cells t p → Reducing raw given pair property start t p → Reducing raw given pair property start t (suc p)
reducing_broken raw given cells all pair property start t p place breaks h = record {
  runs = h.runs;
  property_is = h.property_is;
  tried = broken_stays raw given h.runs.circuit cells all property h.property_is pair start
      (record { resets = h.runs.resets; start_is = h.runs.start_is }) t p place breaks h.runs.confirmed h.tried;
}

pub clearing_broken : (raw : Raw) (given : Witness) (cells : List (List Tern)) → AreNeededCellsIn raw given cells
    → (pair : CircuitAndRows) (property : ℕ) (start : List Tern) (first t p : ℕ) → IsPlace (start ∷ pair.rows) t p
    → Breaks pair cells t p → Clearing raw given pair property start first t p
    → Clearing raw given pair property start first t (suc p)
clearing_broken raw given cells all pair property start first t p place breaks h = record {
  circuit = h.circuit;
  runs = h.runs;
  run = h.run;
  property_is = h.property_is;
  starts = h.starts;
  from = h.from;
  constrained = h.constrained;
  tried = λ c.
      broken_stays raw given h.circuit cells all property h.property_is pair start h.runs t p place breaks (record {
        latches = h.run.latches;
        widths = h.run.widths;
        some = h.run.some;
        property = h.run.property;
        verdict = c;
      }) (h.tried c);
}

-- what is known before a value is tried
pub knows_begun : (raw : Raw) (given : Witness) (pair : CircuitAndRows) → Reducing raw given pair given.property given.start 0 0
    → pair.rows ≡ given.rows → (known : Known) → known.latches.items ≡ raw.latches
    → AreReaders pair.circuit known.readers → AreNeededStarts pair given.property known.needed.start.items
    → AreNeededInputs pair given.property known.needed.rows.rows → AreNeededCells pair given.property known.needed.cells.rows
    → Knows raw given known
knows_begun raw given pair h rows_are known latches readers starts inputs cells =
    let g : IsConfirmedWitness raw given =
    subst (λ (rows : List (List Tern)). IsConfirmedWitness raw (witness_of given.property (given.start ∷ rows))) rows_are
    h.runs.confirmed in
    let runs : Runs raw pair given.start = record { resets = h.runs.resets; start_is = h.runs.start_is } in
    record {
      latches = latches;
      readers = readers.size ∙ ap (λ (n : ℕ). n + 1) h.runs.resets.size;
      needed = needed_in raw given h.runs.circuit g pair runs rows_are known.needed.start.items known.needed.rows.rows starts
          inputs;
      cells = cells_in raw given h.runs.circuit g pair runs rows_are known.needed.cells.rows cells;
    }
