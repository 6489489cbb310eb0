-- A bench with one more gate.
use Rattle.std.proofs.Common.{◌≡◌, inl, inr, ℕ, zero, suc, ◌+◌, ◌-◌, ◌*◌, ◌<◌, ◌≤◌, Bool, true, List, [], ◌∷◌, ◌++◌}
use Rattle.std.proofs.Common.{map, length, Some, slice_get, slice_set, refl, sym, ap, ◌∙◌, subst, arith, length-append}
use Rattle.std.proofs.lemmas.List.{length-map}
use Rattle.std.proofs.lemmas.Option.{same_Some}
use Rattle.aig_parts.specs.declared.ternary.Tern.{Tern}
use Rattle.aig_parts.specs.declared.gate.Gate.{Gate}
use Rattle.aig_parts.specs.declared.raw.Raw.{Raw}
use Rattle.aig_base.specs.Changes.{CanAppend, next_gate, with_appended_gate}
use Rattle.aig_base.specs.Levels.{AreLevels}
use Rattle.aig_parts.specs.Literal.{variable, IsEven}
use Rattle.aig_base.specs.Readers.{ReaderLists, AreReaders}
use Rattle.aig_base.proofs.growth.Appended.{gate_cases, more_circuit, new_at}
use Rattle.aig_base.proofs.lists.Gets.{slice_get_last, slice_get_left}
use Rattle.aig_values.specs.Cells.{gate_value, with_new_cell}
use Rattle.aig_values.specs.InputRows.{row_at}
use Rattle.aig_parts.specs.Limits.{cell_limit}
use Rattle.aig_bench.specs.declared.propagate.buckets.Buckets.{Buckets}
use Rattle.aig_bench.specs.declared.propagate.latch_readers.LatchReaders.{LatchReaders}
use Rattle.aig_bench.specs.declared.engine.driven_circuit.DrivenCircuit.{DrivenCircuit}
use Rattle.aig_bench.specs.declared.engine.fanouts.Fanouts.{Fanouts}
use Rattle.aig_bench.specs.declared.propagate.pending.Pending.{Pending}
use Rattle.aig_bench.specs.state.Buckets.{AreBuckets, IsQueued}
use Rattle.aig_bench.specs.state.Current.{AreCurrent, AreRows, IsCurrentRow, IsLaidOut}
use Rattle.aig_bench.specs.Edit.{append_gate}
use Rattle.aig_bench.specs.state.Latches.{AreLatchReaders}
use Rattle.aig_bench.specs.state.Pending.{IsSettledBench}
use Rattle.aig_bench.specs.state.DrivenCircuit.{IsDriven, pair_of}
use Rattle.aig_bench.specs.state.Sweep.{IsWork}
use Rattle.aig_bench.specs.state.Waiting.{HaveSides, Sides, sides_of}
use Rattle.aig_bench.specs.Touched.{HasOther, Touches, Changes, AreCells}
use Rattle.aig_base.proofs.fan_outs.ReaderLists.{readers_kept}
use Rattle.aig_bench.proofs.edits.Edited.{lists_for, work_kept, working}
use Rattle.aig_bench.proofs.growing.Grown.{flags_grown, grown_current, grown_old, grown_width, has_all}
use Rattle.aig_base.proofs.levels.LevelBound.{level_bound}
use Rattle.aig_bench.proofs.cells.Kept.{none_other}
use Rattle.aig_bench.proofs.renewals.RenewalLemmas.{cells_none, cells_same, column_cells}

-- the last gate is the new one
pub last_is : (raw c : Raw) (r0 r1 : ℕ) (g : Gate) → c ≡ with_appended_gate raw r0 r1
    → slice_get c.gates (length c.gates - 1) ≡ Some g → g ≡ next_gate raw r0 r1
last_is raw c r0 r1 g e at =
    let long = length-append raw.gates (next_gate raw r0 r1 ∷ []) in
    let place : length c.gates - 1 ≡ length raw.gates = ap (λ (x : Raw). length x.gates - 1) e ∙ omega arith in
    same_Some g (next_gate raw r0 r1)
    (sym at ∙ ap (slice_get c.gates) place
    ∙ ap (λ (x : Raw). slice_get x.gates (length raw.gates)) e ∙ new_at raw r0 r1)

pub even_new : (raw : Raw) (r0 r1 : ℕ) → IsEven (next_gate raw r0 r1).lhs
even_new raw r0 r1 = omega arith

-- the level that was added last
pub last_level : (old new : List ℕ) (l level v : ℕ) → new ≡ old ++ l ∷ [] → v ≡ length old → slice_get new v ≡ Some level
    → new ≡ old ++ level ∷ []
last_level old new l level v e at is =
    e ∙ ap (λ k. old ++ k ∷ []) (same_Some l level
    (sym (slice_get_last old l) ∙ ap (slice_get (old ++ l ∷ [])) (sym at) ∙ ap (λ (xs : List ℕ). slice_get xs v) (sym e) ∙ is))

-- the sides of gates, where one more gate has its own
sides_grown : (raw : Raw) (r0 r1 : ℕ) (g : Gate) (sides : List Sides) → g ≡ next_gate raw r0 r1 → HaveSides raw sides
    → HaveSides (with_appended_gate raw r0 r1) (sides ++ sides_of g ∷ [])
sides_grown raw r0 r1 g sides is have = record {
  size = length-append sides (sides_of g ∷ []) ∙ ap (λ n. n + 1) have.size;
  each = λ q x at. elim (gate_cases raw r0 r1 q x at) [
    | inl here ↦ slice_get_left sides (sides_of g ∷ []) (variable x.lhs) (sides_of x) (have.each q x here)
    | inr new ↦
        let one : g ≡ x = is ∙ new.1 in
        let place : variable (next_gate raw r0 r1).lhs ≡ length sides = omega (arith, have.size) in
        ap (λ (y : Gate). slice_get (sides ++ sides_of g ∷ []) (variable y.lhs)) (sym new.1)
        ∙ ap (slice_get (sides ++ sides_of g ∷ [])) place ∙ slice_get_last sides (sides_of g) ∙ ap (λ (y : Gate). Some (sides_of y)) one
  ];
}

row_mapped : (cells : List (List Tern)) (t : ℕ) → t < length cells
    → row_at (map with_new_cell cells) t ≡ with_new_cell (row_at cells t)
row_mapped [] t lt = absurd (omega arith)
row_mapped (row ∷ cells) zero lt = refl
row_mapped (row ∷ cells) (suc t) lt = row_mapped cells t (omega arith)

module _ (driven : DrivenCircuit) (fanouts : Fanouts) (pending : Pending) (flags : List Bool) (cells : List (List Tern))
    (r : IsSettledBench driven fanouts pending flags cells) where
  -- a bench whose lists of readers have other room
  pub ready_still : (c : Raw) (levels : List ℕ) (readers : ReaderLists) → c ≡ driven.circuit → levels ≡ fanouts.levels
      → readers.lists ≡ fanouts.readers.lists
      → IsSettledBench (record driven { circuit = c }) (record { levels = levels; readers = readers; latches = fanouts.latches })
      pending flags cells
  ready_still c levels readers e f same =
      let w = r.working.work in
      let fanouts' : Fanouts = record { levels = levels; readers = readers; latches = fanouts.latches } in
      let are = readers_kept driven.circuit fanouts.readers readers w.readers same in
      subst (λ (x : Raw). IsSettledBench (record driven { circuit = x }) fanouts' pending flags cells)
      (sym e)
      (record {
        working = work_kept driven driven fanouts _ pending.buckets flags cells r.working refl refl
            (subst (AreLevels driven.circuit) (sym f) w.levels) are f;
        lists = lists_for driven driven fanouts _ pending r.lists refl r.lists.readers;
        idle = r.idle;
      })

  module _ (r0 r1 : ℕ) (can : CanAppend driven.circuit r0 r1)
      (few : (driven.circuit.max_var + 2) * length driven.stimulus.rows ≤ cell_limit) where
    abbrev more : Raw
    more = with_appended_gate driven.circuit r0 r1

    abbrev after : DrivenCircuit
    after = record driven { circuit = more }

    abbrev gate : Gate
    gate = next_gate driven.circuit r0 r1

    driven_grown : IsDriven after
    driven_grown =
        let p = r.working.bench.driven_is in
        let same : driven.circuit.max_var + 1 + 1 ≡ driven.circuit.max_var + 2 = omega arith in
        record {
          circuit = more_circuit driven.circuit r0 r1 p.circuit can.room can.defined0 can.defined1;
          width = p.width;
          widths = p.widths;
          frames = p.frames;
          cells = rw same few;
        }

    module _ (mid new : List (List Tern)) (g : Gate) (is : g ≡ gate) (e : mid ≡ map with_new_cell cells)
        (size : length new ≡ length mid)
        (rows : (t : ℕ) → t < length mid
        → row_at new t ≡ slice_set (row_at mid t) (variable g.lhs) (gate_value (row_at mid t) g)) where
      abbrev frames : ℕ
      frames = length driven.stimulus.rows

      mid_size : length mid ≡ frames
      mid_size = ap length e ∙ length-map cells with_new_cell ∙ r.working.bench.laid_out.rows_are.frames_are

      row_is : (t : ℕ) → t < frames
          → row_at new t ≡ slice_set (with_new_cell (row_at cells t)) (variable gate.lhs)
          (gate_value (with_new_cell (row_at cells t)) gate)
      row_is t lt =
          let at : row_at mid t ≡ with_new_cell (row_at cells t) =
          ap (λ (c : List (List Tern)). row_at c t) e
          ∙ row_mapped cells t (omega (arith, r.working.bench.laid_out.rows_are.frames_are)) in
          rows t (omega (arith, mid_size))
          ∙ ap (λ (x : Gate). slice_set (row_at mid t) (variable x.lhs) (gate_value (row_at mid t) x)) is
          ∙ ap (λ (row : List Tern). slice_set row (variable gate.lhs) (gate_value row gate)) at

      wide : (t : ℕ) → t < frames → length (row_at cells t) ≡ driven.circuit.max_var + 1
      wide t lt = r.working.bench.laid_out.rows_are.widths t lt

      current : AreCurrent (pair_of after) frames new
      current = record {
        each = λ t lt. subst (IsCurrentRow (pair_of after) t) (sym (row_is t lt))
            (grown_current (pair_of driven) r0 r1 r.working.bench.driven_is.circuit.sound can.defined0 can.defined1 t (row_at cells t)
            (wide t lt)
            (r.working.bench.current.each t lt));
      }

      rows_grown : AreRows more frames new
      rows_grown = record {
        frames_are = size ∙ mid_size;
        widths = λ t lt. ap length (row_is t lt) ∙ grown_width driven.circuit r0 r1 (row_at cells t) _ (wide t lt);
        constants = λ t lt. ap (λ (row : List Tern). slice_get row 0) (row_is t lt)
            ∙ grown_old driven.circuit r0 r1 (row_at cells t) _ (wide t lt) 0 (omega arith)
            ∙ r.working.bench.laid_out.rows_are.constants t lt;
      }

      pub ready_grown : (c : Raw) (levels : List ℕ) (readers : ReaderLists) (latches : LatchReaders) (b : Buckets)
          (flags' : List Bool) → c ≡ more → AreLevels more levels → AreReaders more readers
          → AreLatchReaders more latches
          → AreBuckets levels b → ((v : ℕ) → IsQueued b v → ⊥)
          → length b.head.items ≡ length pending.buckets.head.items + 1
          → b.marks.sides ≡ pending.buckets.marks.sides ++ sides_of g ∷ []
          → flags' ≡ flags ++ true ∷ []
          → IsSettledBench (record driven { circuit = c }) (record { levels = levels; readers = readers; latches = latches })
          (record { buckets = b; here = pending.here; ahead = pending.ahead }) flags' new
      ready_grown c levels readers latches b flags' same l rs ls bs empty heads sides fs =
          let w = r.working.work in
          let fanouts' : Fanouts = record { levels = levels; readers = readers; latches = latches } in
          let pending' : Pending = record { buckets = b; here = pending.here; ahead = pending.ahead } in
          let out : IsLaidOut after flags' new =
          record {
            flags_are = flags_grown driven.circuit r0 r1 flags flags' w.laid_out.flags_are fs;
            rows_are = rows_grown;
          } in
          let work : IsWork after fanouts' flags' new b =
          record {
            driven_is = driven_grown;
            laid_out = out;
            levels = l;
            readers = rs;
            buckets = bs;
            sides = subst (HaveSides more) (sym sides)
                (sides_grown driven.circuit r0 r1 g pending.buckets.marks.sides is w.sides);
            size = heads ∙ ap (λ n. n + 1) w.size;
            heads = λ v n k level.
                let le = level_bound more driven_grown.circuit.sound level in omega (arith, heads, w.size);
            gates = λ v k. absurd (empty v k);
          } in
          subst (λ (x : Raw). IsSettledBench (record driven { circuit = x }) fanouts' pending' flags' new) (sym same)
          (record {
            working = working after fanouts' b flags' new work empty current;
            lists = record { readers = ls; here = r.lists.here; ahead = r.lists.ahead };
            idle = record { queued = empty; here = r.idle.here; ahead = r.idle.ahead };
          })

    -- no value changes, and the new gate's cells are touched
    no_other : (t v : ℕ) → HasOther (pair_of driven) (pair_of after) t v → ⊥
    no_other = none_other (pair_of driven) more (has_all driven.circuit r0 r1) driven_grown.circuit.sound

    pub grown_touched : (n : ℕ) → n ≡ length driven.stimulus.rows
        → AreCells (Touches (pair_of driven) (append_gate r0 r1)) n
    grown_touched n e = cells_same _ _ n (column_cells (driven.circuit.max_var + 1) n) (λ t v. (
      λ k. elim k [
        | inl f ↦ (omega (arith, f.0), f.1)
        | inr o ↦ elim o.1.4 [ inl a ↦ absurd (no_other t _ a) | inr a ↦ absurd (no_other t _ a) ]
      ],
      λ k. inl (omega (arith, k.0), k.1),
    ))

    pub grown_changed : (n : ℕ) → n ≡ 0 → AreCells (Changes (pair_of driven) (append_gate r0 r1)) n
    grown_changed n e =
        subst (AreCells (Changes (pair_of driven) (append_gate r0 r1))) (sym e) (cells_none _ (λ t v k. no_other t v k.2))
