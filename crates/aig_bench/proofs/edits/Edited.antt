-- From the cells of a bench before an edit to those after it.
use Rattle.std.proofs.Common.{◌≡◌, ◌≢◌, ◌⊎◌, ◌↔◌, inl, inr, ℕ, zero, suc, ◌+◌, ◌-◌, ◌*◌, ◌<◌, ◌≤◌, Bool, true, false}
use Rattle.std.proofs.Common.{nat_eq, get_or, List, [], ◌∷◌, ◌++◌, map, length, take, Some, slice_get, slice_set}
use Rattle.std.proofs.Common.{Contains, refl, sym, ap, ◌∙◌, subst, arith, length-append, length-take}
use Rattle.std.proofs.lemmas.Bool.{cases_eq, eqb-true}
use Rattle.std.proofs.lemmas.Bool.Decides.{eqb_tells}
use Rattle.std.proofs.lemmas.List.{length-map}
use Rattle.std.proofs.lemmas.Option.{same_Some, slice_get-get_or, slice_get_within}
use Rattle.aig_parts.specs.declared.ternary.Tern.{Tern}
use Rattle.aig_parts.specs.declared.ternary.Tern.TheVariants.{Zero}
use Rattle.aig_parts.specs.declared.gate.Gate.{Gate}
use Rattle.aig_parts.specs.declared.raw.Raw.{Raw}
use Rattle.aig_parts.specs.declared.latch.Latch.{Latch}
use Rattle.aig_base.specs.Changes.{rewired, with_gate, restarted, with_reset}
use Rattle.aig_base.specs.Levels.{AreLevels}
use Rattle.aig_parts.specs.Literal.{variable}
use Rattle.aig_base.specs.Readers.{AreReaders}
use Rattle.aig_base.specs.Sections.{definitions, IsDefined, IsGate, IsLeftSide}
use Rattle.aig_base.specs.Sound.{IsSound}
use Rattle.aig_base.specs.state.Marks.{IsMarked}
use Rattle.aig_base.specs.Value.{start_of, reset_value}
use Rattle.aig_base.proofs.circuits.Circuits.{gate_defined, rhs0_defined, rhs1_defined, input_defined, latch_defined}
use Rattle.aig_base.proofs.lists.Counting.{gates_once}
use Rattle.aig_base.proofs.circuits.Gates.{gate_of}
use Rattle.aig_base.proofs.circuits.Places as places
use Rattle.aig_base.proofs.lists.Positions.{Contains-cons}
use Rattle.aig_base.proofs.values.UniqueValue.{unique}
use Rattle.aig_values.specs.InputRows.{InputRows, row_at, with_cell, HaveWidth}
use Rattle.aig_bench.specs.declared.propagate.buckets.Buckets.{Buckets}
use Rattle.aig_bench.specs.declared.engine.driven_circuit.DrivenCircuit.{DrivenCircuit}
use Rattle.aig_bench.specs.declared.engine.fanouts.Fanouts.{Fanouts}
use Rattle.aig_bench.specs.state.Buckets.{AreBuckets, IsBucketChain, HasChain, IsQueued, without_levels}
use Rattle.aig_values.specs.Cells.{literal_value}
use Rattle.aig_bench.specs.state.Current.{IsLaidOut, HoldsInPair, HoldsLatchesInPair, IsCurrentRow, IsCurrentBefore}
use Rattle.aig_bench.specs.state.Current.{AreCurrent, IsBench}
use Rattle.aig_bench.specs.Edit.{Edit, edited, set_bit, rewire, set_reset, add_frame, drop_frame}
use Rattle.aig_bench.specs.declared.propagate.pending.Pending.{Pending}
use Rattle.aig_bench.specs.state.Latches.{AreLatchReaders, IsLatchAt}
use Rattle.aig_bench.specs.state.Pending.{HasLists, IsNextRow}
use Rattle.aig_bench.specs.state.Entry.{LatchesRest, HasOtherSources}
use Rattle.aig_bench.specs.BenchState.{CircuitAndRows, HasValue}
use Rattle.aig_bench.specs.state.Passing.{Differs, IsConsistent}
use Rattle.aig_bench.specs.state.DrivenCircuit.{IsDriven, pair_of}
use Rattle.aig_bench.specs.state.Renewed.{IsBetween, IsTouchedCell, IsChangedCell, Renewed}
use Rattle.aig_bench.specs.state.Sweep.{IsWork, IsWorking}
use Rattle.aig_bench.specs.state.Waiting.{HaveSides, Sides}
use Rattle.aig_bench.specs.Touched.{HasOther, IsForced, Touches, Changes, AreCells}
use Rattle.aig_bench.proofs.cells.CellLemmas.{get_set_other, row_written, row_other, frames_written}
use Rattle.aig_bench.proofs.renewals.Changed.{current_below, slice_get_take, slice_get_append}
use Rattle.aig_bench.proofs.queues.Chained.{head_in}
use Rattle.aig_bench.proofs.cells.Earlier.{value_before}
use Rattle.aig_base.proofs.levels.LevelBound.{level_bound}
use Rattle.aig_bench.proofs.queues.Once.{never_once}
use Rattle.aig_bench.proofs.passes.Others.{differs_other, other_differs, consistent}
use Rattle.aig_bench.proofs.renewals.RenewalLemmas.{cells_same, cells_none, frame_cells}
use Rattle.aig_bench.proofs.edits.Rewired.{left_side_gate, defined_was, gate_was, gate_kept, sides_rewired}
use Rattle.aig_bench.proofs.carries.NextLatches.{latch_next_holds}
use Rattle.aig_bench.proofs.carries.LatchChains.{latch_unmapped}
use Rattle.aig_bench.proofs.cells.Values.{input_value, latch_value, latch_starts, latch_follows}

-- empty buckets are buckets for any levels
empty_chain : (levels levels' head next : List ℕ) (marks : List Bool) (l : ℕ) → HasChain levels head next marks l
    → ((v : ℕ) → slice_get marks v ≡ Some true → ⊥) → HasChain levels' head next marks l
empty_chain levels levels' head next marks l h empty = of h.chain h.leads h.each
  where
    of : (chain : List ℕ) → IsBucketChain next (get_or head l 0) chain → ((v : ℕ) → Contains chain v ↔ ((slice_get marks v ≡ Some true) × (slice_get levels v ≡ Some l)))
        → HasChain levels' head next marks l
    of [] leads each = record {
      chain = [];
      leads = leads;
      each = λ v. (λ i. absurd (omega (arith, i.1)), λ m. absurd (empty v m.0));
    }
    of (x ∷ xs) leads each = absurd (empty x ((each x).0 (head_in x xs)).0)

-- the buckets with another copy of levels
abbrev pub with_levels : Buckets → List ℕ → Buckets
with_levels b levels = record b { marks = record b.marks { levels = levels } }

-- the buckets with other right sides
abbrev pub with_sides : Buckets → List Sides → Buckets
with_sides b sides = record b { marks = record b.marks { sides = sides } }

buckets_rewired : (levels levels' : List ℕ) (b : Buckets) (sides : List Sides) → AreBuckets levels b → length levels' ≡ length levels
    → ((v : ℕ) → IsQueued b v → ⊥) → AreBuckets levels' (with_sides (with_levels b levels') sides)
buckets_rewired levels levels' b sides h size empty = record {
  chained = record {
    marks_size = h.chained.marks_size ∙ sym size;
    next_size = h.chained.next_size ∙ sym size;
    chains = λ l lt. empty_chain levels levels' b.head.items b.marks.next b.marks.items l (h.chained.chains l lt) empty;
    placed = λ v m. absurd (empty v m);
  };
  levels_are = refl;
  sizes = h.sizes;
  few = h.few;
  room = h.room;
  occupied = h.occupied;
}

-- empty buckets serve another driven of the same size, with the same gates and levels
pub work_for : (driven new : DrivenCircuit) (fanouts fanouts' : Fanouts) (flags flags' : List Bool) (cells cells' : List (List Tern)) (b : Buckets)
    → IsWork driven fanouts flags cells b → ((v : ℕ) → IsQueued b v → ⊥) → new.circuit.max_var ≡ driven.circuit.max_var → IsDriven new
    → IsLaidOut new flags' cells' → AreLevels new.circuit fanouts'.levels → AreReaders new.circuit fanouts'.readers
    → fanouts'.levels ≡ fanouts.levels → new.circuit.gates ≡ driven.circuit.gates → IsWork new fanouts' flags' cells' b
work_for driven new fanouts fanouts' flags flags' cells cells' b w empty size p laid_out levels readers same gates = record {
  driven_is = p;
  laid_out = laid_out;
  levels = levels;
  readers = readers;
  buckets = subst (λ (ls : List ℕ). AreBuckets ls b) (sym same) w.buckets;
  sides = record {
    size = w.sides.size ∙ ap (λ n. n + 1) (sym size);
    each = λ q g at. w.sides.each q g (ap (λ (gs : List Gate). slice_get gs q) (sym gates) ∙ at);
  };
  size = omega (arith, w.size);
  heads = λ v n g l. let le = level_bound new.circuit p.circuit.sound l in omega (arith, w.size);
  gates = λ v k. absurd (empty v k);
}

-- a copy of the levels was renewed, and then the sides of a variable
pub buckets_renewed : (b mid new : Buckets) (levels : List ℕ) (u v r0 r1 : ℕ) → mid.marks.levels ≡ levels
    → without_levels mid ≡ without_levels b
    → new ≡ with_sides mid (slice_set mid.marks.sides u (record { rhs0 = r0; rhs1 = r1 })) → u ≡ v
    → new ≡ with_sides (with_levels b levels) (slice_set b.marks.sides v (record { rhs0 = r0; rhs1 = r1 }))
buckets_renewed b mid new levels u v r0 r1 e rest is same =
    let now : mid ≡ with_levels b levels =
    ap (with_levels mid) e ∙ ap (λ (x : Buckets). with_levels x levels) rest in
    is ∙ ap (λ (x : Buckets). with_sides x (slice_set x.marks.sides u (record { rhs0 = r0; rhs1 = r1 }))) now
    ∙ ap (λ (z : ℕ). with_sides (with_levels b levels) (slice_set b.marks.sides z (record { rhs0 = r0; rhs1 = r1 }))) same

-- empty buckets that got other levels, and the sides of a rewired gate
pub work_rewired : (driven new : DrivenCircuit) (fanouts fanouts' : Fanouts) (flags flags' : List Bool) (cells cells' : List (List Tern)) (b b' : Buckets)
    (lhs r0 r1 : ℕ) → IsWork driven fanouts flags cells b → ((v : ℕ) → IsQueued b v → ⊥) → IsLeftSide driven.circuit lhs
    → new.circuit ≡ with_gate driven.circuit lhs r0 r1 → IsDriven new → IsLaidOut new flags' cells'
    → AreLevels new.circuit fanouts'.levels → AreReaders new.circuit fanouts'.readers
    → b' ≡ with_sides (with_levels b fanouts'.levels) (slice_set b.marks.sides (variable lhs) (record { rhs0 = r0; rhs1 = r1 }))
    → IsWork new fanouts' flags' cells' b'
work_rewired driven new fanouts fanouts' flags flags' cells cells' b b' lhs r0 r1 w empty left e p laid_out levels readers is =
    let size : new.circuit.max_var ≡ driven.circuit.max_var = ap (λ (x : Raw). x.max_var) e in
    let sides = sides_rewired driven.circuit b.marks.sides lhs r0 r1 w.driven_is.circuit.sound left w.sides in
    subst (IsWork new fanouts' flags' cells') (sym is) (record {
      driven_is = p;
      laid_out = laid_out;
      levels = levels;
      readers = readers;
      buckets = buckets_rewired fanouts.levels fanouts'.levels b _ w.buckets (omega (arith, levels.size, w.levels.size)) empty;
      sides = subst (λ (x : Raw). HaveSides x (slice_set b.marks.sides (variable lhs) (record { rhs0 = r0; rhs1 = r1 }))) (sym e) sides;
      size = omega (arith, w.size);
      heads = λ v n g l. let le = level_bound new.circuit p.circuit.sound l in omega (arith, w.size);
      gates = λ v k. absurd (empty v k);
    })

-- what an edit leaves of a pair: the same gates but for those that are evaluated in any case, and the same inputs
pub record Follows (p p' : CircuitAndRows) (forced : List ℕ) : Type 0 where
  pub frames : length p'.rows ≡ length p.rows
  pub inputs : p'.circuit.inputs ≡ p.circuit.inputs
  pub gates : (q : ℕ) (g : Gate) → slice_get p'.circuit.gates q ≡ Some g
      → Contains forced (variable g.lhs) ⊎ (slice_get p.circuit.gates q ≡ Some g)
  pub defined : (v : ℕ) → IsDefined p'.circuit v → IsDefined p.circuit v
  pub gate_was : (v : ℕ) → IsGate p'.circuit v → IsGate p.circuit v
  pub gate_now : (v : ℕ) → IsGate p.circuit v → IsGate p'.circuit v
  pub latches : (i : ℕ) (x : Latch) → slice_get p'.circuit.latches i ≡ Some x
      → (y : Latch) × (slice_get p.circuit.latches i ≡ Some y) × (y.lit ≡ x.lit) × (y.next ≡ x.next)

module _ (p p' : CircuitAndRows) (forced : List ℕ) (h : Follows p p' forced) (sound : IsSound p.circuit) (sound' : IsSound p'.circuit)
    (widths : HaveWidth (length p.circuit.inputs) p.rows) where
  -- an input whose bit is the same has the same value
  pub input_stays : (t i l : ℕ) (row : List Tern) → t < length p.rows → slice_get p'.circuit.inputs i ≡ Some l
      → slice_get (row_at p'.rows t) i ≡ slice_get (row_at p.rows t) i → HoldsInPair p t row (variable l) → HoldsInPair p' t row (variable l)
  input_stays t i l row lt at same k =
      let was : slice_get p.circuit.inputs i ≡ Some l = ap (λ (ls : List ℕ). slice_get ls i) (sym h.inputs) ∙ at in
      let wide : length (row_at p.rows t) ≡ length p.circuit.inputs = widths t [] lt in
      let w = get_or (row_at p.rows t) i k.cell in
      let bit : slice_get (row_at p.rows t) i ≡ Some w =
      slice_get-get_or (row_at p.rows t) i k.cell (omega (arith, slice_get_within p.circuit.inputs i l was)) in
      let e : k.cell ≡ w = unique p.circuit (start_of p.circuit) p.rows sound k.value_is (input_value p t i l w sound lt was bit) in
      record {
        cell = k.cell;
        cell_is = k.cell_is;
        value_is = subst (λ (x : Tern). HasValue p' t (2 * variable l) x) (sym e)
            (input_value p' t i l w sound' (omega (arith, h.frames)) at (same ∙ bit));
      }

  module _ (cells : List (List Tern)) (now : AreCurrent p (length p.rows) cells) where
    pub rests : (t : ℕ) (put : List ℕ) → t < length p.rows → slice_get (row_at cells t) 0 ≡ Some Zero
        → ((i l : ℕ) → slice_get p'.circuit.inputs i ≡ Some l → (Contains put (variable l) → ⊥)
        → slice_get (row_at p'.rows t) i ≡ slice_get (row_at p.rows t) i)
        → HasOtherSources p' t (row_at cells t) put
    rests t put lt z same = record {
      constant = z;
      inputs = λ i l at out.
          let was : slice_get p.circuit.inputs i ≡ Some l = ap (λ (ls : List ℕ). slice_get ls i) (sym h.inputs) ∙ at in
          input_stays t i l (row_at cells t) lt at (same i l at out)
          (now.each t lt (variable l) (input_defined p.circuit i l was));
    }

    pub consistent_at : (t : ℕ) → t < length p.rows → IsConsistent p' (Contains forced) (row_at cells t)
    consistent_at t lt = consistent p p' t (row_at cells t) sound (Contains forced) (now.each t lt) h.gates

    -- a latch's cell is what its next literal was in the row before
    pub next_rows : (t : ℕ) → suc t < length p.rows → IsNextRow p'.circuit (row_at cells t) (row_at cells (suc t))
    next_rows t lt i x at =
        let (y, was, lit, next) = h.latches i x at in
        let k = now.each (suc t) lt (variable y.lit) (latch_defined p.circuit i y was) in
        let v = latch_value p (suc t) i y (literal_value (row_at cells t) y.next) sound was
        (latch_follows p (suc t) t i y (row_at cells t) sound refl was (now.each t (omega arith))) in
        let e : k.cell ≡ literal_value (row_at cells t) y.next =
        unique p.circuit (start_of p.circuit) p.rows sound k.value_is v in
        subst (λ (l : ℕ). slice_get (row_at cells (suc t)) (variable l) ≡ Some (literal_value (row_at cells t) x.next)) lit
        (subst (λ (l : ℕ). slice_get (row_at cells (suc t)) (variable y.lit) ≡ Some (literal_value (row_at cells t) l)) next
        (k.cell_is ∙ ap Some e))

    -- a latch that starts as before has its value at the first frame
    pub first_holds : (i : ℕ) (x y : Latch) → slice_get p'.circuit.latches i ≡ Some x → slice_get p.circuit.latches i ≡ Some y
        → y.lit ≡ x.lit → y.reset ≡ x.reset → 0 < length p.rows → HoldsInPair p' 0 (row_at cells 0) (variable x.lit)
    first_holds i x y at was lit reset lt =
        let k = now.each 0 lt (variable y.lit) (latch_defined p.circuit i y was) in
        let v = latch_value p 0 i y (reset_value y.reset) sound was (latch_starts p i y was) in
        let e : k.cell ≡ reset_value y.reset = unique p.circuit (start_of p.circuit) p.rows sound k.value_is v in
        record {
          cell = reset_value x.reset;
          cell_is = subst (λ (l : ℕ). slice_get (row_at cells 0) (variable l) ≡ Some (reset_value x.reset)) lit
              (subst (λ (r : ℕ). slice_get (row_at cells 0) (variable y.lit) ≡ Some (reset_value r)) reset
              (k.cell_is ∙ ap Some e));
          value_is = latch_value p' 0 i x (reset_value x.reset) sound' at (latch_starts p' i x at);
        }

    -- what was touched and changed, by the values
    module _ (e : Edit) (is : p' ≡ edited p e) (first n : ℕ) (all : n ≡ length p.rows)
        (forces : (t v : ℕ) → IsForced p e t v ↔ (IsBetween first n t × Contains forced v))
        (gates : (v : ℕ) → Contains forced v → IsGate p'.circuit v)
        (before : (t v : ℕ) → t < first → HasOther p p' t v → ⊥) where
      there : (t : ℕ) → IsBetween first n t → (t < length p.rows) × (t < length p'.rows)
      there t k = (omega arith, omega (arith, h.frames))

      holds : (t v : ℕ) → IsBetween first n t → IsDefined p'.circuit v → HoldsInPair p t (row_at cells t) v
      holds t v k d = now.each t (there t k).0 v (h.defined v d)

      from_first : (t v : ℕ) → t < length p.rows → HasOther p p' t v → IsBetween first n t
      from_first t v lt o = elim (or t) [ inl k ↦ absurd (before t v k o) | inr k ↦ (k, omega arith) ]
        where
          or : (t : ℕ) → (t < first) ⊎ (first ≤ t)
          or t = grind arith

      touches : (t v : ℕ) → Touches p e t v ↔ (IsBetween first n t × IsTouchedCell p' forced cells t v)
      touches t v = rw (← is) (
        λ k. elim k [
          | inl f ↦
              let (b, i) = (forces t v).0 f in
              let (g, q, at, same) = gate_of p'.circuit v (gates v i) in
              (b, (q, g, at, same, inl (subst (Contains forced) (sym same) i)))
          | inr r ↦ to r.0 r.1
        ],
        λ k. back k.0 k.1,
      )
        where
          to : (t < length p.rows) × (t < length p'.rows)
              → (q : ℕ) × (g : Gate) × (slice_get p'.circuit.gates q ≡ Some g) × (variable g.lhs ≡ v)
              × (HasOther p p' t (variable g.rhs0) ⊎ HasOther p p' t (variable g.rhs1))
              → IsBetween first n t × IsTouchedCell p' forced cells t v
          to lt (q, g, at, same, inl o) =
              let b = from_first t (variable g.rhs0) lt.0 o in (
                b,
                (
                  q,
                  g,
                  at,
                  same,
                  inr (
                    variable g.rhs0,
                    inl refl,
                    other_differs p p' t (row_at cells t) sound (variable g.rhs0)
                        (holds t (variable g.rhs0) b (rhs0_defined p'.circuit sound' q g at)) o,
                  ),
                ),
              )
          to lt (q, g, at, same, inr o) =
              let b = from_first t (variable g.rhs1) lt.0 o in (
                b,
                (
                  q,
                  g,
                  at,
                  same,
                  inr (
                    variable g.rhs1,
                    inr refl,
                    other_differs p p' t (row_at cells t) sound (variable g.rhs1)
                        (holds t (variable g.rhs1) b (rhs1_defined p'.circuit sound' q g at)) o,
                  ),
                ),
              )

          back : IsBetween first n t → IsTouchedCell p' forced cells t v
              → IsForced p e t v ⊎ (((t < length p.rows) × (t < length p'.rows))
              × ((q : ℕ) × (g : Gate) × (slice_get p'.circuit.gates q ≡ Some g) × (variable g.lhs ≡ v)
              × (HasOther p p' t (variable g.rhs0) ⊎ HasOther p p' t (variable g.rhs1))))
          back b (q, g, at, same, inl i) = inl ((forces t v).1 (b, subst (Contains forced) same i))
          back b (q, g, at, same, inr (u, inl s, d)) =
              inr (
                there t b,
                (
                  q,
                  g,
                  at,
                  same,
                  inl (differs_other p p' t (row_at cells t) sound (variable g.rhs0)
                      (holds t (variable g.rhs0) b (rhs0_defined p'.circuit sound' q g at))
                      (subst (Differs p' t (row_at cells t)) (sym s) d)),
                ),
              )
          back b (q, g, at, same, inr (u, inr s, d)) =
              inr (
                there t b,
                (
                  q,
                  g,
                  at,
                  same,
                  inr (differs_other p p' t (row_at cells t) sound (variable g.rhs1)
                      (holds t (variable g.rhs1) b (rhs1_defined p'.circuit sound' q g at))
                      (subst (Differs p' t (row_at cells t)) (sym s) d)),
                ),
              )

      changes : (t v : ℕ) → Changes p e t v ↔ (IsBetween first n t × IsChangedCell p' cells t v)
      changes t v = rw (← is) (
        λ k.
            let b = from_first t v k.1.0 k.2 in
            let g = h.gate_now v k.0 in
            let (x, q, at, same) = gate_of p'.circuit v g in (
              b,
              (
                g,
                other_differs p p' t (row_at cells t) sound v
                    (holds t v b (subst (IsDefined p'.circuit) same (gate_defined p'.circuit q x at))) k.2,
              ),
            ),
        λ k.
            let (x, q, at, same) = gate_of p'.circuit v k.1.0 in (
              h.gate_was v k.1.0,
              there t k.0,
              differs_other p p' t (row_at cells t) sound v
                  (holds t v k.0 (subst (IsDefined p'.circuit) same (gate_defined p'.circuit q x at))) k.1.1,
            ),
      )

      pub touched_cells : (new : List (List Tern)) (ev ch : ℕ) → Renewed p' forced first n cells new ev ch
          → AreCells (Touches p e) ev
      touched_cells new ev ch r = cells_same _ _ ev r.touched touches

      pub changed_cells : (new : List (List Tern)) (ev ch : ℕ) → Renewed p' forced first n cells new ev ch
          → AreCells (Changes p e) ch
      changed_cells new ev ch r = cells_same _ _ ch r.changed_cells changes

-- below a frame up to which the rows agree nothing has another value
pub no_other : (p : CircuitAndRows) (rows : List (List Tern)) (m : ℕ) → IsSound p.circuit
    → ((t : ℕ) → t < m → slice_get rows t ≡ slice_get p.rows t)
    → (t v : ℕ) → t < m → HasOther p (record p { rows = rows }) t v → ⊥
no_other p rows m sound same t v lt o =
    o.other (unique p.circuit (start_of p.circuit) rows sound o.after_is
    (value_before p.circuit (start_of p.circuit) p.rows rows m same lt o.before_is))

-- the rows before the first renewed one are current
pub before_first : (p : CircuitAndRows) (m : ℕ) (cells : List (List Tern)) → AreCurrent p m cells → IsCurrentBefore p m cells
before_first p m cells h u e = h.each u (omega arith)

-- all rows are current
pub all_current : (p : CircuitAndRows) (forced : List ℕ) (first n e c : ℕ) (old new : List (List Tern)) → AreCurrent p first old
    → Renewed p forced first n old new e c → AreCurrent p n new
all_current p forced first n e c old new h r = record {
  each = λ t lt. elim (or t) [
    | inl k ↦ subst (IsCurrentRow p t) (sym (r.others t (inl k))) (h.each t k)
    | inr k ↦ r.current t (k, lt)
  ];
}
  where
    or : (t : ℕ) → (t < first) ⊎ (first ≤ t)
    or t = grind arith

-- one row more is current
pub current_more : (p : CircuitAndRows) (n : ℕ) (old new : List (List Tern)) → AreCurrent p n old → IsCurrentRow p n (row_at new n)
    → ((u : ℕ) → u ≢ n → row_at new u ≡ row_at old u) → AreCurrent p (n + 1) new
current_more p n old new h row others = record {
  each = λ t lt. elim (cases_eq t n) [
    | inl e ↦ subst (λ (k : ℕ). IsCurrentRow p k (row_at new k)) (sym e) row
    | inr ne ↦ subst (IsCurrentRow p t) (sym (others t ne)) (h.each t (omega arith))
  ];
}

pub none_current : (p : CircuitAndRows) (cells : List (List Tern)) → AreCurrent p 0 cells
none_current p cells = record { each = λ t lt. absurd (omega arith) }

pub working : (driven : DrivenCircuit) (fanouts : Fanouts) (b : Buckets) (flags : List Bool) (cells : List (List Tern))
    → IsWork driven fanouts flags cells b → ((v : ℕ) → IsQueued b v → ⊥) → AreCurrent (pair_of driven) (length driven.stimulus.rows) cells
    → IsWorking driven fanouts b flags cells
working driven fanouts b flags cells w empty now = record {
  bench = record { driven_is = w.driven_is; laid_out = w.laid_out; current = now };
  work = w;
  empty = empty;
}

-- a bit that is replaced
module _ (driven : DrivenCircuit) (fanouts : Fanouts) (b : Buckets) (flags : List Bool) (cells : List (List Tern)) (s : InputRows)
    (f i : ℕ) (w : Tern) (h : IsWorking driven fanouts b flags cells)
    (e : s ≡ record driven.stimulus { rows = with_cell driven.stimulus.rows f i w })
    (frame : f < length driven.stimulus.rows) where
  abbrev p : CircuitAndRows
  p = pair_of driven

  abbrev new : DrivenCircuit
  new = record driven { stimulus = s }

  abbrev p' : CircuitAndRows
  p' = pair_of new

  sound : IsSound driven.circuit
  sound = h.work.driven_is.circuit.sound

  rows_are : s.rows ≡ with_cell driven.stimulus.rows f i w
  rows_are = ap (λ (x : InputRows). x.rows) e

  pub bit_frames : length s.rows ≡ length driven.stimulus.rows
  bit_frames = ap length rows_are ∙ frames_written driven.stimulus.rows f i w

  row_kept : (t : ℕ) → t ≢ f → row_at s.rows t ≡ row_at driven.stimulus.rows t
  row_kept t ne = ap (λ (rows : List (List Tern)). row_at rows t) rows_are ∙ row_other driven.stimulus.rows f i w t ne

  get_kept : (t : ℕ) → t < f → slice_get s.rows t ≡ slice_get driven.stimulus.rows t
  get_kept t lt = ap (λ (rows : List (List Tern)). slice_get rows t) rows_are
      ∙ get_set_other driven.stimulus.rows f t _ (λ k. omega arith)

  bit_kept : (j : ℕ) → j ≢ i → slice_get (row_at s.rows f) j ≡ slice_get (row_at driven.stimulus.rows f) j
  bit_kept j ne = ap (λ (rows : List (List Tern)). slice_get (row_at rows f) j) rows_are
      ∙ ap (λ (row : List Tern). slice_get row j) (row_written driven.stimulus.rows f i w frame)
      ∙ get_set_other (row_at driven.stimulus.rows f) i j w ne

  follows : Follows p p' []
  follows = record {
    frames = bit_frames;
    inputs = refl;
    gates = λ q g at. inr at;
    defined = λ v d. d;
    gate_was = λ v d. d;
    gate_now = λ v d. d;
    latches = λ j x at. (x, at, refl, refl);
  }

  widths : HaveWidth (length driven.circuit.inputs) driven.stimulus.rows
  widths = subst (λ (n : ℕ). HaveWidth n driven.stimulus.rows) h.work.driven_is.width h.work.driven_is.widths

  -- the rows before the frame of the bit
  pub bit_below : AreCurrent p' f cells
  bit_below = current_below p (length driven.stimulus.rows) f s.rows cells cells h.bench.current (omega arith) get_kept (λ t lt. refl)

  pub bit_before : IsCurrentBefore p' f cells
  bit_before = before_first p' f cells bit_below

  pub bit_consistent : (t : ℕ) → f ≤ t → t < length s.rows → IsConsistent p' (Contains []) (row_at cells t)
  bit_consistent t le lt = consistent_at p p' [] follows sound sound widths cells h.bench.current t (omega (arith, bit_frames))

  pub bit_next : (t : ℕ) → f ≤ t → suc t < length s.rows → IsNextRow driven.circuit (row_at cells t) (row_at cells (suc t))
  bit_next t le lt = next_rows p p' [] follows sound sound widths cells h.bench.current t (omega (arith, bit_frames))

  -- no latch has another value at the frame of the bit
  pub bit_latches : HoldsLatchesInPair p' f (row_at cells f)
  bit_latches j x at = of f refl
    where
      of : (n : ℕ) → n ≡ f → HoldsInPair p' n (row_at cells n) (variable x.lit)
      of zero e = first_holds p p' [] follows sound sound widths cells h.bench.current j x x at at refl refl (omega arith)
      of (suc u) e =
          latch_next_holds p' u sound (row_at cells u) (row_at cells (suc u)) j x at (bit_before u (sym e))
          (next_rows p p' [] follows sound sound widths cells h.bench.current u (omega arith) j x at)

  pub bit_here : (l : ℕ) → slice_get driven.circuit.inputs i ≡ Some l → HasOtherSources p' f (row_at cells f) (variable l ∷ [])
  bit_here l at = rests p p' [] follows sound sound widths cells h.bench.current f (variable l ∷ []) frame
      (h.work.laid_out.rows_are.constants f frame)
      (λ j m stands out. bit_kept j (λ k. out (head_is j m stands k)))
    where
      head_is : (j m : ℕ) → slice_get driven.circuit.inputs j ≡ Some m → j ≡ i → Contains (variable l ∷ []) (variable m)
      head_is j m stands k =
          let same : m ≡ l = same_Some m l (sym stands ∙ ap (slice_get driven.circuit.inputs) k ∙ at) in
          subst (λ (n : ℕ). Contains (variable l ∷ []) (variable n)) (sym same) (head_in (variable l) [])

  pub bit_stale : (t : ℕ) → f < t → t < length s.rows → HasOtherSources p' t (row_at cells t) []
  bit_stale t lt inside =
      rests p p' [] follows sound sound widths cells h.bench.current t [] (omega (arith, bit_frames))
      (h.work.laid_out.rows_are.constants t (omega (arith, bit_frames)))
      (λ j m stands out. ap (λ (row : List Tern). slice_get row j) (row_kept t (λ k. omega arith)))

  module _ (ev ch : ℕ) (cells' : List (List Tern)) (r : Renewed p' [] f (length s.rows) cells cells' ev ch) where
    edit_is : p' ≡ edited p (set_bit f i w)
    edit_is = ap (λ (rows : List (List Tern)). let x : CircuitAndRows = record p { rows = rows } in x) rows_are

    bit_forces : (t v : ℕ) → IsForced p (set_bit f i w) t v ↔ (IsBetween f (length s.rows) t × Contains [] v)
    bit_forces t v = (λ k. absurd k, λ k. absurd (omega (arith, k.1.1)))

    pub bit_touched : AreCells (Touches p (set_bit f i w)) ev
    bit_touched = touched_cells p p' [] follows sound sound widths cells h.bench.current (set_bit f i w) edit_is f
        (length s.rows) bit_frames bit_forces (λ v k. absurd (omega (arith, k.1)))
        (no_other p s.rows f sound get_kept) cells' ev ch r

    pub bit_changed : AreCells (Changes p (set_bit f i w)) ch
    bit_changed = changed_cells p p' [] follows sound sound widths cells h.bench.current (set_bit f i w) edit_is f
        (length s.rows) bit_frames bit_forces (λ v k. absurd (omega (arith, k.1)))
        (no_other p s.rows f sound get_kept) cells' ev ch r

-- another circuit for the same rows
module _ (driven new : DrivenCircuit) (fanouts : Fanouts) (b : Buckets) (flags : List Bool) (cells : List (List Tern)) (forced : List ℕ)
    (h : IsWorking driven fanouts b flags cells) (follows : Follows (pair_of driven) (pair_of new) forced)
    (sound' : IsSound new.circuit) (rows : new.stimulus.rows ≡ driven.stimulus.rows) where
  abbrev n : ℕ
  n = length new.stimulus.rows

  size : n ≡ length driven.stimulus.rows
  size = ap length rows

  wide : HaveWidth (length driven.circuit.inputs) driven.stimulus.rows
  wide = subst (λ (k : ℕ). HaveWidth k driven.stimulus.rows) h.work.driven_is.width h.work.driven_is.widths

  pub all_consistent : (t : ℕ) → 0 ≤ t → t < n
      → IsConsistent (pair_of new) (Contains forced) (row_at cells t) × HasOtherSources (pair_of new) t (row_at cells t) []
  all_consistent t le lt =
      let inside : t < length driven.stimulus.rows = omega (arith, size) in
      let sound = h.work.driven_is.circuit.sound in (
        consistent_at (pair_of driven) (pair_of new) forced follows sound sound' wide cells h.bench.current t inside,
        rests (pair_of driven) (pair_of new) forced follows sound sound' wide cells h.bench.current t [] inside
            (h.work.laid_out.rows_are.constants t inside)
            (λ i l at out. ap (λ (rs : List (List Tern)). slice_get (row_at rs t) i) rows),
      )

  pub all_next : (t : ℕ) → 0 ≤ t → suc t < n → IsNextRow new.circuit (row_at cells t) (row_at cells (suc t))
  all_next t le lt =
      next_rows (pair_of driven) (pair_of new) forced follows h.work.driven_is.circuit.sound sound' wide cells h.bench.current t
      (omega (arith, size))

  -- latches that start as before are not carried into the first frame
  pub all_latches : (marks : List Bool) → ((i : ℕ) (x : Latch) → slice_get new.circuit.latches i ≡ Some x
      → (IsMarked marks (suc i) → ⊥)
      → (y : Latch) × (slice_get driven.circuit.latches i ≡ Some y) × (y.lit ≡ x.lit) × (y.reset ≡ x.reset))
      → 0 < n → LatchesRest (pair_of new) 0 (row_at cells 0) marks
  all_latches marks same lt i x at out =
      let (y, was, lit, reset) = same i x at out in
      first_holds (pair_of driven) (pair_of new) forced follows h.work.driven_is.circuit.sound sound' wide cells h.bench.current i x y
      at was lit reset (omega (arith, size))

  module _ (e : Edit) (is : pair_of new ≡ edited (pair_of driven) e)
      (forces : (t v : ℕ) → IsForced (pair_of driven) e t v ↔ ((t < length driven.stimulus.rows) × Contains forced v))
      (gates : (v : ℕ) → Contains forced v → IsGate new.circuit v) (ev ch : ℕ) (cells' : List (List Tern))
      (r : Renewed (pair_of new) forced 0 n cells cells' ev ch) where
    forces_all : (t v : ℕ) → IsForced (pair_of driven) e t v ↔ (IsBetween 0 n t × Contains forced v)
    forces_all t v = (
      λ k. let (lt, i) = (forces t v).0 k in ((omega arith, omega (arith, size)), i),
      λ k. (forces t v).1 (omega (arith, size, k.0.1), k.1),
    )

    pub all_touched : AreCells (Touches (pair_of driven) e) ev
    all_touched = touched_cells (pair_of driven) (pair_of new) forced follows h.work.driven_is.circuit.sound sound' wide cells
        h.bench.current e is 0 n size forces_all gates (λ t v lt. absurd (omega arith)) cells' ev ch r

    pub all_changed : AreCells (Changes (pair_of driven) e) ch
    all_changed = changed_cells (pair_of driven) (pair_of new) forced follows h.work.driven_is.circuit.sound sound' wide cells
        h.bench.current e is 0 n size forces_all gates (λ t v lt. absurd (omega arith)) cells' ev ch r

same_lit : (lit : ℕ) (w : Tern) (xs : List Latch) → map (λ x. x.lit) (map (restarted lit w) xs) ≡ map (λ x. x.lit) xs
same_lit lit w [] = refl
same_lit lit w (x ∷ xs) = ap (λ ls. x.lit ∷ ls) (same_lit lit w xs)

reset_definitions : (raw : Raw) (lit : ℕ) (w : Tern) → definitions (with_reset raw lit w) ≡ definitions raw
reset_definitions raw lit w = ap (λ ls. raw.inputs ++ ls ++ map (λ (g : Gate). g.lhs) raw.gates) (same_lit lit w raw.latches)

same_latch : (raw : Raw) → IsSound raw → (i k : ℕ) (y z : Latch) → slice_get raw.latches i ≡ Some y
    → slice_get raw.latches k ≡ Some z → y.lit ≡ z.lit → i ≡ k
same_latch raw s i k y z at stands e =
    let same = places.same_place raw s (places.latch i) (places.latch k) y.lit (y, at, refl) (z, stands, sym e) in cc

pub follows_reset : (driven : DrivenCircuit) (c : Raw) (lit : ℕ) (w : Tern) → c ≡ with_reset driven.circuit lit w
    → Follows (pair_of driven) (pair_of (record driven { circuit = c })) []
follows_reset driven c lit w e =
    subst (λ (x : Raw). Follows (pair_of driven) (pair_of (record driven { circuit = x })) []) (sym e)
    (record {
      frames = refl;
      inputs = refl;
      gates = λ q g at. inr at;
      defined = λ v d. subst (λ ls. Contains (0 ∷ map variable ls) v) (reset_definitions driven.circuit lit w) d;
      gate_was = λ v d. d;
      gate_now = λ v d. d;
      latches = λ i x at.
          let (y, here, is) = latch_unmapped (restarted lit w) driven.circuit.latches i x at in
          (y, here, ap (λ (z : Latch). z.lit) is, ap (λ (z : Latch). z.next) is);
    })

-- of latches that are reset, the others start as before
pub other_start : (raw : Raw) (lit : ℕ) (w : Tern) (k i : ℕ) (x : Latch) → IsSound raw → IsLatchAt raw lit k
    → slice_get (with_reset raw lit w).latches i ≡ Some x → i ≢ k
    → (y : Latch) × (slice_get raw.latches i ≡ Some y) × (y.lit ≡ x.lit) × (y.reset ≡ x.reset)
other_start raw lit w k i x s (z, stands, named) at ne =
    let (y, here, is) = latch_unmapped (restarted lit w) raw.latches i x at in
    (y, here, ap (λ (z : Latch). z.lit) is, same_reset y here ∙ ap (λ (z : Latch). z.reset) is)
  where
    apart : (y : Latch) → slice_get raw.latches i ≡ Some y → y.lit ≢ lit
    apart y here e = ne (same_latch raw s i k y z here stands (e ∙ sym named))

    same_reset : (y : Latch) → slice_get raw.latches i ≡ Some y → y.reset ≡ (restarted lit w y).reset
    same_reset y here = elim (eqb_tells y.lit lit) [
      | inl e ↦ absurd (apart y here e.1)
      | inr e ↦ rw e.0 refl
    ]

one_is : (x v : ℕ) → Contains (x ∷ []) v → v ≡ x
one_is x v k = elim (Contains-cons x [] v k) [ inl e ↦ e | inr i ↦ absurd (omega (arith, i.1)) ]

pub forces_gate : (p : CircuitAndRows) (lhs r0 r1 x t v : ℕ) → x ≡ variable lhs
    → IsForced p (rewire lhs r0 r1) t v ↔ ((t < length p.rows) × Contains (x ∷ []) v)
forces_gate p lhs r0 r1 x t v e = (
  λ k. (k.0, subst (Contains (x ∷ [])) (e ∙ sym k.1) (head_in x [])),
  λ k. (k.0, one_is x v k.1 ∙ e),
)

gate_at : (lhs r0 r1 : ℕ) (gs : List Gate) (q : ℕ) (g : Gate) → slice_get (map (rewired lhs r0 r1) gs) q ≡ Some g
    → (g.lhs ≡ lhs) ⊎ (slice_get gs q ≡ Some g)
gate_at lhs r0 r1 [] q g at = inr at
gate_at lhs r0 r1 (z ∷ gs) zero g at = of (nat_eq z.lhs lhs) refl
  where
    of : (b : Bool) → nat_eq z.lhs lhs ≡ b → (g.lhs ≡ lhs) ⊎ (Some z ≡ Some g)
    of true e = inl (ap (λ (x : Gate). x.lhs) (sym (same_Some _ g at)) ∙ eqb-true z.lhs lhs e)
    of false e = inr (sym (rw e refl) ∙ at)
gate_at lhs r0 r1 (z ∷ gs) (suc q) g at = gate_at lhs r0 r1 gs q g at

pub follows_rewire : (driven new : DrivenCircuit) (lhs r0 r1 x : ℕ) → x ≡ variable lhs
    → new.circuit ≡ with_gate driven.circuit lhs r0 r1 → new.stimulus ≡ driven.stimulus
    → Follows (pair_of driven) (pair_of new) (x ∷ [])
follows_rewire driven new lhs r0 r1 x ex e f =
    let rows : new.stimulus.rows ≡ driven.stimulus.rows = ap (λ (s : InputRows). s.rows) f in
    record {
      frames = ap length rows;
      inputs = ap (λ (c : Raw). c.inputs) e;
      gates = λ q g at. elim (gate_at lhs r0 r1 driven.circuit.gates q g (subst (λ (c : Raw). slice_get c.gates q ≡ Some g) e at)) [
        | inl k ↦ inl (subst (Contains (x ∷ [])) (ex ∙ ap variable (sym k)) (head_in x []))
        | inr k ↦ inr k
      ];
      defined = λ v d. defined_was lhs r0 r1 driven.circuit v (subst (λ (c : Raw). IsDefined c v) e d);
      gate_was = λ v d. gate_was lhs r0 r1 driven.circuit v (subst (λ (c : Raw). IsGate c v) e d);
      gate_now = λ v d. subst (λ (c : Raw). IsGate c v) (sym e) (gate_kept lhs r0 r1 driven.circuit v d);
      latches = λ i y at. (y, subst (λ (c : Raw). slice_get c.latches i ≡ Some y) e at, refl, refl);
    }

pub forces_none : (p : CircuitAndRows) (latch : ℕ) (w : Tern) (t v : ℕ)
    → IsForced p (set_reset latch w) t v ↔ ((t < length p.rows) × Contains [] v)
forces_none p latch w t v = (λ k. absurd k, λ k. absurd (omega (arith, k.1.1)))

pub none_forced : (raw : Raw) (v : ℕ) → Contains [] v → IsGate raw v
none_forced raw v k = absurd (omega (arith, k.1))

pub gate_forced : (raw new : Raw) (lhs r0 r1 x v : ℕ) → IsLeftSide raw lhs → x ≡ variable lhs → new ≡ with_gate raw lhs r0 r1
    → Contains (x ∷ []) v → IsGate new v
gate_forced raw new lhs r0 r1 x v named ex e k =
    let g : IsGate raw (variable lhs) = left_side_gate raw lhs named in
    subst (IsGate new) (sym (one_is x v k ∙ ex))
    (subst (λ (c : Raw). IsGate c (variable lhs)) (sym e) (gate_kept lhs r0 r1 raw (variable lhs) g))

-- a frame that is added
module _ (driven : DrivenCircuit) (s : InputRows) (row : List Tern) (cells mid new : List (List Tern))
    (sound : IsSound driven.circuit) (now : AreCurrent (pair_of driven) (length driven.stimulus.rows) cells)
    (e : s ≡ record driven.stimulus { rows = driven.stimulus.rows ++ row ∷ [] }) where
  abbrev m : ℕ
  m = length driven.stimulus.rows

  abbrev after : CircuitAndRows
  after = pair_of (record driven { stimulus = s })

  abbrev all : List ℕ
  all = map (λ (g : Gate). variable g.lhs) driven.circuit.gates

  rows_more : s.rows ≡ driven.stimulus.rows ++ row ∷ []
  rows_more = ap (λ (x : InputRows). x.rows) e

  pub frames_more : length s.rows ≡ m + 1
  frames_more = ap length rows_more ∙ length-append driven.stimulus.rows (row ∷ [])

  rows_kept : (t : ℕ) → t < m → slice_get s.rows t ≡ slice_get driven.stimulus.rows t
  rows_kept t lt = ap (λ (rows : List (List Tern)). slice_get rows t) rows_more
      ∙ slice_get_append driven.stimulus.rows (row ∷ []) t [] lt

  none_before : (t v : ℕ) → t < m → HasOther (pair_of driven) after t v → ⊥
  none_before = no_other (pair_of driven) s.rows m sound rows_kept

  is_edited : after ≡ edited (pair_of driven) (add_frame row)
  is_edited = ap (λ (rows : List (List Tern)). let x : CircuitAndRows = record (pair_of driven) { rows = rows } in x) rows_more

  pub added_current : (now_row : IsCurrentRow after m (row_at new m)) → ((u : ℕ) → u ≢ m → row_at new u ≡ row_at mid u)
      → AreCurrent after m mid → AreCurrent after (length s.rows) new
  added_current now_row others before =
      subst (λ (k : ℕ). AreCurrent after k new) (sym frames_more) (current_more after m mid new before now_row others)

  pub added_touched : (n : ℕ) → n ≡ length driven.circuit.gates → AreCells (Touches (pair_of driven) (add_frame row)) n
  added_touched n is =
      let once = never_once all (gates_once driven.circuit sound) in
      let size : length all ≡ n = length-map driven.circuit.gates (λ (g : Gate). variable g.lhs) ∙ sym is in
      cells_same _ _ n (subst (AreCells (λ t v. (t ≡ m) × Contains all v)) size (frame_cells m all once)) (λ t v. rw (← is_edited) (
        λ k. elim k [
          | inl f ↦ f
          | inr r ↦ elim r.1.4 [
            | inl o ↦ absurd (none_before t _ r.0.0 o)
            | inr o ↦ absurd (none_before t _ r.0.0 o)
          ]
        ],
        λ k. inl k,
      ))

  pub added_changed : AreCells (Changes (pair_of driven) (add_frame row)) 0
  added_changed = cells_none _ (λ t v. rw (← is_edited) (λ k. none_before t v k.1.0 k.2))

-- the last frame taken off changes nothing before it
module _ (p : CircuitAndRows) (sound : IsSound p.circuit) where
  shorter : (t : ℕ) → t < length (take (length p.rows - 1) p.rows) → t < length p.rows - 1
  shorter t lt = omega (arith, length-take (length p.rows - 1) p.rows)

  same_below : (t : ℕ) → t < length p.rows - 1 → slice_get (take (length p.rows - 1) p.rows) t ≡ slice_get p.rows t
  same_below t lt = slice_get_take (length p.rows - 1) p.rows t [] (omega arith) lt

  none_other : (t v : ℕ) → t < length p.rows - 1 → HasOther p (edited p drop_frame) t v → ⊥
  none_other = no_other p (take (length p.rows - 1) p.rows) (length p.rows - 1) sound same_below

  pub dropped_touched : AreCells (Touches p drop_frame) 0
  dropped_touched = cells_none _ (λ t v k. elim k [
    | inl f ↦ absurd f
    | inr r ↦ elim r.1.4 [
      | inl o ↦ none_other t _ (shorter t r.0.1) o
      | inr o ↦ none_other t _ (shorter t r.0.1) o
    ]
  ])

  pub dropped_changed : AreCells (Changes p drop_frame) 0
  dropped_changed = cells_none _ (λ t v k. none_other t v (shorter t k.1.1) k.2)

pub fewer_current : (p : CircuitAndRows) (n m : ℕ) (cells : List (List Tern)) → n ≤ m → AreCurrent p m cells → AreCurrent p n cells
fewer_current p n m cells le h = record { each = λ t lt. h.each t (omega arith) }

-- a driven circuit that stayed as it was
pub driven_same : (driven new : DrivenCircuit) → new.circuit ≡ driven.circuit → new.stimulus ≡ driven.stimulus → new ≡ driven
driven_same driven new e f =
    ap (λ (c : Raw). let x : DrivenCircuit = record { circuit = c; stimulus = new.stimulus } in x) e
    ∙ ap (λ (s : InputRows). let x : DrivenCircuit = record { circuit = driven.circuit; stimulus = s } in x) f

pub work_kept : (driven new : DrivenCircuit) (fanouts fanouts' : Fanouts) (b : Buckets) (flags : List Bool) (cells : List (List Tern))
    → IsWorking driven fanouts b flags cells → new.circuit ≡ driven.circuit → new.stimulus ≡ driven.stimulus
    → AreLevels new.circuit fanouts'.levels → AreReaders new.circuit fanouts'.readers → fanouts'.levels ≡ fanouts.levels
    → IsWorking new fanouts' b flags cells
work_kept driven new fanouts fanouts' b flags cells h e f levels readers same =
    let bench = subst (λ (x : DrivenCircuit). IsBench x flags cells) (sym (driven_same driven new e f)) h.bench in
    record {
      bench = bench;
      work = work_for driven new fanouts fanouts' flags flags cells cells b h.work h.empty (ap (λ (c : Raw). c.max_var) e) bench.driven_is
          bench.laid_out levels readers same (ap (λ (c : Raw). c.gates) e);
      empty = h.empty;
    }

pub pair_rewired : (driven new : DrivenCircuit) (c : Raw) → new.circuit ≡ c → new.stimulus ≡ driven.stimulus
    → pair_of new ≡ record { circuit = c; rows = driven.stimulus.rows }
pair_rewired driven new c e f =
    ap (λ (x : Raw). let p : CircuitAndRows = record { circuit = x; rows = new.stimulus.rows } in p) e
    ∙ ap (λ (s : InputRows). let p : CircuitAndRows = record { circuit = c; rows = s.rows } in p) f

-- the lists serve another driven with as many latches
pub lists_for : (driven new : DrivenCircuit) (fanouts fanouts' : Fanouts) (pending : Pending) → HasLists driven fanouts pending
    → length new.circuit.latches ≡ length driven.circuit.latches → AreLatchReaders new.circuit fanouts'.latches
    → HasLists new fanouts' pending
lists_for driven new fanouts fanouts' pending h size readers = record {
  readers = readers;
  here = rw size h.here;
  ahead = rw size h.ahead;
}
