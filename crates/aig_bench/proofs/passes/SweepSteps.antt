-- What one evaluation does to grid and buckets.
use Rattle.std.proofs.Common.{◌≡◌, ◌≢◌, ◌↔◌, inl, inr, ℕ, ◌+◌, ◌*◌, ◌<◌, ◌≤◌, Bool, List, ◌∷◌, length, get_or, Some}
use Rattle.std.proofs.Common.{slice_get, slice_index, slice_set, Contains, refl, sym, ap, ◌∙◌, subst, arith}
use Rattle.std.proofs.lemmas.Bool.{cases_eq}
use Rattle.std.proofs.lemmas.List.{length-set}
use Rattle.std.proofs.lemmas.Option.{same_Some}
use Rattle.aig_parts.specs.declared.ternary.Tern.{Tern}
use Rattle.aig_parts.specs.declared.ternary.Tern.TheVariants.{X}
use Rattle.aig_parts.specs.declared.gate.Gate.{Gate}
use Rattle.aig_base.specs.Grounded.{Level}
use Rattle.aig_parts.specs.Literal.{variable}
use Rattle.aig_base.specs.Sections.{IsGate}
use Rattle.aig_base.proofs.circuits.Circuits.{gate_definition, gate_in_range, gate_is}
use Rattle.aig_base.proofs.circuits.Gates.{gate_of}
use Rattle.aig_base.proofs.levels.OneLevel.{level_of_gate}
use Rattle.aig_values.specs.Cells.{gate_value, HasCells}
use Rattle.aig_values.specs.InputRows.{row_at, with_cell}
use Rattle.aig_bench.specs.declared.propagate.latch_list.LatchList.{LatchList}
use Rattle.aig_bench.specs.state.Latches.{TakesNextFrom, QueuesNextLatches, Lists}
use Rattle.aig_bench.proofs.carries.NextLatches.{next_latches_same, next_latches_written, set_again}
use Rattle.aig_bench.specs.declared.propagate.buckets.Buckets.{Buckets}
use Rattle.aig_bench.specs.declared.engine.driven_circuit.DrivenCircuit.{DrivenCircuit}
use Rattle.aig_bench.specs.declared.engine.fanouts.Fanouts.{Fanouts}
use Rattle.aig_bench.specs.state.Buckets.{AreBuckets, IsFirst, IsQueued, CanBeQueued, Links, TakesVariable}
use Rattle.aig_bench.specs.state.Current.{AreGateFlags, IsLaidOut}
use Rattle.aig_bench.specs.state.DrivenCircuit.{pair_of}
use Rattle.aig_parts.specs.declared.raw.Raw.{Raw}
use Rattle.aig_base.specs.Readers.{ReaderLists, list_of, ReadsVariable, AreReaders}
use Rattle.aig_bench.specs.state.Sweep.{IsWork, Sweeps}
use Rattle.aig_bench.specs.state.Waiting.{HaveSides, Sides, sides_of}
use Rattle.aig_bench.proofs.cells.CellLemmas.{get_set_other, row_written, row_other, frames_written}
use Rattle.aig_bench.proofs.cells.Flags.{gate_cells}
use Rattle.aig_bench.proofs.queues.Chained.{first_is}
use Rattle.aig_bench.proofs.passes.Sweeps.{lower, swept_changed, swept_same, cell_changed, cell_same}

-- the list of a variable has the gates that read it
pub each_reader : (raw : Raw) (r : ReaderLists) (xs : List ℕ) (v : ℕ) → AreReaders raw r → v ≤ raw.max_var → xs ≡ list_of r v
    → (u : ℕ) → Contains xs u ↔ ReadsVariable raw u v
each_reader raw r xs v h le e u = rw e (h.each v u le)

-- a grid in which a cell was written is laid out as before
pub laid_out_written : (driven : DrivenCircuit) (t u : ℕ) (w : Tern) (flags flags' : List Bool) (old new : List (List Tern))
    → IsLaidOut driven flags old → new ≡ with_cell old t u w → t < length driven.stimulus.rows → 0 < u → flags' ≡ flags
    → IsLaidOut driven flags' new
laid_out_written driven t u w flags flags' old new h is lt positive e = record {
  flags_are = subst (AreGateFlags driven.circuit) (sym e) h.flags_are;
  rows_are = record {
    frames_are = ap length is ∙ frames_written old t u w ∙ h.rows_are.frames_are;
    widths = λ s below. elim (cases_eq s t) [
      | inl k ↦ ap length (here s k) ∙ length-set (row_at old t) u w ∙ h.rows_are.widths t lt
      | inr ne ↦ ap length (there s ne) ∙ h.rows_are.widths s below
    ];
    constants = λ s below. elim (cases_eq s t) [
      | inl k ↦
          ap (λ (r : List Tern). slice_get r 0) (here s k)
          ∙ get_set_other (row_at old t) u 0 w (λ z. omega arith) ∙ h.rows_are.constants t lt
      | inr ne ↦ ap (λ (r : List Tern). slice_get r 0) (there s ne) ∙ h.rows_are.constants s below
    ];
  };
}
  where
    inside : t < length old
    inside = omega (arith, h.rows_are.frames_are)

    here : (s : ℕ) → s ≡ t → row_at new s ≡ slice_set (row_at old t) u w
    here s k = ap (row_at new) k ∙ ap (λ (c : List (List Tern)). row_at c t) is ∙ row_written old t u w inside

    there : (s : ℕ) → s ≢ t → row_at new s ≡ row_at old s
    there s ne = ap (λ (c : List (List Tern)). row_at c s) is ∙ row_other old t u w s ne

-- what was taken is a gate of the circuit
pub taken_gate : (driven : DrivenCircuit) (fanouts : Fanouts) (flags : List Bool) (cells : List (List Tern)) (b : Buckets) (v : ℕ) (g : Gate)
    → IsWork driven fanouts flags cells b → IsQueued b v → g.lhs ≡ 2 * v → slice_get b.marks.sides v ≡ Some (sides_of g)
    → (q : ℕ) × (slice_get driven.circuit.gates q ≡ Some g)
taken_gate driven fanouts flags cells b v g work waits lhs_is sides =
    let (x, q, at, e) = gate_of driven.circuit v (work.gates v waits) in
    let d = gate_definition driven.circuit work.driven_is.circuit.sound q x at in
    let both = same_Some (sides_of x) (sides_of g)
    (sym (work.sides.each q x at) ∙ ap (slice_get b.marks.sides) e ∙ sides) in
    let lhs : x.lhs ≡ g.lhs = omega arith in
    let same : x ≡ g =
    ap (λ (l : ℕ). let y : Gate = record { lhs = l; rhs0 = x.rhs0; rhs1 = x.rhs1 } in y) lhs
    ∙ ap (λ (s : Sides). let y : Gate = record { lhs = g.lhs; rhs0 = s.rhs0; rhs1 = s.rhs1 } in y) both in
    (q, at ∙ ap Some same)

module _ (driven : DrivenCircuit) (fanouts : Fanouts) (flags : List Bool) (cells : List (List Tern)) (b b' : Buckets) (t l w q : ℕ) (g : Gate)
    (work : IsWork driven fanouts flags cells b) (lt : t < length driven.stimulus.rows)
    (takes : TakesVariable fanouts.levels l b b' w) (at : slice_get driven.circuit.gates q ≡ Some g) (e : variable g.lhs ≡ w) where
  abbrev v : ℕ
  v = variable g.lhs

  taken : TakesVariable fanouts.levels l b b' v
  taken = subst (TakesVariable fanouts.levels l b b') (sym e) takes

  in_range : v ≤ driven.circuit.max_var
  in_range = gate_in_range driven.circuit work.driven_is.circuit.sound q g at

  pub taken_in_range : w ≤ driven.circuit.max_var
  taken_in_range = subst (λ (z : ℕ). z ≤ driven.circuit.max_var) e in_range

  positive : 0 < v
  positive = let d = gate_definition driven.circuit work.driven_is.circuit.sound q g at in omega arith

  pub taken_cells : HasCells flags g
  taken_cells = gate_cells driven.circuit flags q g work.driven_is.circuit.sound work.laid_out.flags_are at

  level : Level driven.circuit v l
  level = level_of_gate driven.circuit fanouts.levels v l work.levels work.driven_is.circuit.acyclic (gate_is driven.circuit q g at)
      taken.of_level

  wide : length (row_at cells t) ≡ driven.circuit.max_var + 1
  wide = work.laid_out.rows_are.widths t lt

  pub taken_work : IsWork driven fanouts flags cells b'
  taken_work = record {
    driven_is = work.driven_is;
    laid_out = work.laid_out;
    levels = work.levels;
    readers = work.readers;
    buckets = taken.buckets;
    sides = subst (HaveSides driven.circuit) (sym taken.sides) work.sides;
    size = omega (arith, work.size, taken.heads);
    heads = λ u n k h. let below = work.heads u n k h in omega (arith, taken.heads);
    gates = λ u k. work.gates u ((taken.queued u).0 k).0;
  }

  -- what the others wait for
  pub queued_less : (u : ℕ) → IsQueued b' u → IsQueued b u
  queued_less u k = ((taken.queued u).0 k).0

  pub was_queued : IsQueued b v
  was_queued = taken.was_queued

  pub queued_no_more : IsQueued b' v → ⊥
  queued_no_more k = ((taken.queued v).0 k).1 refl

  pub level_is : slice_get fanouts.levels v ≡ Some l
  level_is = taken.of_level

  head_inside : l < length b'.head.items
  head_inside =
      let below = work.heads v l (gate_is driven.circuit q g at) level in omega (arith, taken.heads)

  pub next_first : (next : ℕ) → slice_index b'.head.items l ≡ next
      → IsFirst fanouts.levels b'.head.items b'.marks.items l next
  next_first next is =
      first_is fanouts.levels b'.head.items b'.marks.next b'.marks.items taken.buckets.chained l head_inside next is

  module _ (xs : List ℕ) (read : xs ≡ list_of fanouts.readers w) where
    reads : (u : ℕ) → Contains xs u ↔ ReadsVariable driven.circuit u v
    reads = each_reader driven.circuit fanouts.readers xs v work.readers in_range (read ∙ ap (list_of fanouts.readers) (sym e))

    gate_reads : (u : ℕ) → Contains xs u → IsGate driven.circuit u
    gate_reads u i =
        let (r, x, there, is, side) = (reads u).0 i in
        subst (IsGate driven.circuit) is (gate_is driven.circuit r x there)

    pub readers_fit : (u : ℕ) → Contains xs u → CanBeQueued fanouts.levels (length b'.head.items) u
    readers_fit u i =
        let (r, x, there, is, side) = (reads u).0 i in
        let d = gate_definition driven.circuit work.driven_is.circuit.sound r x there in
        let k = gate_in_range driven.circuit work.driven_is.circuit.sound r x there in
        let h = gate_reads u i in
        record {
          positive = omega arith;
          inside = omega (arith, work.levels.size);
          level = λ m stands.
              let below = work.heads u m h
              (level_of_gate driven.circuit fanouts.levels u m work.levels work.driven_is.circuit.acyclic h stands) in
              omega (arith, taken.heads);
        }

    -- a reader has a higher level
    reader_over : (u : ℕ) → slice_get fanouts.levels u ≡ Some l → Contains xs u → ⊥
    reader_over u stands i =
        let (r, x, there, is, side) = (reads u).0 i in
        let k : Level driven.circuit u l = level_of_gate driven.circuit fanouts.levels u l work.levels
        work.driven_is.circuit.acyclic (gate_reads u i) stands in
        let o : l < l = lower (pair_of driven) t work.driven_is.circuit r x v l l there side level
        (subst (λ (z : ℕ). Level driven.circuit z l) (sym is) k) in
        omega arith

    module _ (b'' : Buckets) (are : AreBuckets fanouts.levels b'') (links : Links (Contains xs) b' b'') where
      pub linked_work : IsWork driven fanouts flags cells b''
      linked_work = record {
        driven_is = work.driven_is;
        laid_out = work.laid_out;
        levels = work.levels;
        readers = work.readers;
        buckets = are;
        sides = subst (HaveSides driven.circuit) (sym links.sides) taken_work.sides;
        size = omega (arith, work.size, taken.heads, links.heads);
        heads = λ u n k h. let below = work.heads u n k h in omega (arith, taken.heads, links.heads);
        gates = λ u k. elim ((links.queued u).0 k) [
          | inl o ↦ taken_work.gates u o
          | inr i ↦ gate_reads u i
        ];
      }

      -- the level's chain is as it was
      pub linked_first : (next : ℕ) → slice_index b'.head.items l ≡ next
          → IsFirst fanouts.levels b''.head.items b''.marks.items l next
      linked_first next is =
          first_is fanouts.levels b''.head.items b''.marks.next b''.marks.items are.chained l
          (let below = head_inside in omega (arith, links.heads)) next
          (links.kept l (λ u i s. reader_over u (ap (λ (ls : List ℕ). slice_get ls u) (sym taken.buckets.levels_are) ∙ s) i) ∙ is)

      -- at this level no more wait
      pub linked_less : (u : ℕ) → slice_get fanouts.levels u ≡ Some l → IsQueued b'' u → IsQueued b u
      linked_less u stands k = elim ((links.queued u).0 k) [
        | inl o ↦ queued_less u o
        | inr i ↦ absurd (reader_over u stands i)
      ]

      pub linked_no_more : IsQueued b'' v → ⊥
      linked_no_more k = elim ((links.queued v).0 k) [
        | inl o ↦ queued_no_more o
        | inr i ↦
            let (r, x, there, is, side) = (reads v).0 i in
            let o : l < l = lower (pair_of driven) t work.driven_is.circuit r x v l l there side level
            (subst (λ (z : ℕ). Level driven.circuit z l) (sym is) level) in
            absurd (omega arith)
      ]

  module _ (cells' : List (List Tern))
      (is : cells' ≡ with_cell cells t v (gate_value (row_at cells t) g)) where
    row_is : row_at cells' t ≡ slice_set (row_at cells t) v (gate_value (row_at cells t) g)
    row_is = ap (λ (c : List (List Tern)). row_at c t) is
        ∙ row_written cells t v (gate_value (row_at cells t) g) (omega (arith, lt, work.laid_out.rows_are.frames_are))

    -- what a change of the cell carries on
    pub next_latches_changed : (old new : LatchList) → Lists (λ i. TakesNextFrom driven.circuit i w) old new
        → QueuesNextLatches driven.circuit (row_at cells t) old.marks.items (row_at cells' t) new.marks.items
    next_latches_changed old new lists =
        next_latches_written driven.circuit (row_at cells t) (row_at cells' t) w (gate_value (row_at cells t) g) old new
        (subst (λ (z : ℕ). row_at cells' t ≡ slice_set (row_at cells t) z (gate_value (row_at cells t) g)) e row_is) lists

    inside_row : v < length (row_at cells t)
    inside_row = omega (arith, in_range, wide)

    pub other_rows : (u : ℕ) → u ≢ t → row_at cells' u ≡ row_at cells u
    other_rows u ne = ap (λ (c : List (List Tern)). row_at c u) is
        ∙ row_other cells t v (gate_value (row_at cells t) g) u ne

    pub written_work : (flags' : List Bool) (x : Buckets) → flags' ≡ flags → IsWork driven fanouts flags cells x → IsWork driven fanouts flags' cells' x
    written_work flags' x same h = record {
      driven_is = h.driven_is;
      laid_out = laid_out_written driven t v (gate_value (row_at cells t) g) flags flags' cells cells' h.laid_out is lt positive same;
      levels = h.levels;
      readers = h.readers;
      buckets = h.buckets;
      sides = h.sides;
      size = h.size;
      heads = h.heads;
      gates = h.gates;
    }

    pub sweeps_changed : (xs : List ℕ) → xs ≡ list_of fanouts.readers w → (b'' : Buckets) → Links (Contains xs) b' b''
        → get_or (row_at cells' t) v X ≢ get_or (row_at cells t) v X
        → Sweeps (pair_of driven) t l l (row_at cells t) b.marks.items (row_at cells' t) b''.marks.items 1 1
    sweeps_changed xs read b'' links ne =
        let fresh = cell_changed (row_at cells t) (row_at cells' t) v (gate_value (row_at cells t) g) row_is inside_row ne in
        record {
          sweep = λ forced old ys zs fits s. record {
            evaluated_now = v ∷ ys;
            changed_now = v ∷ zs;
            sweeping = rw row_is (swept_changed (pair_of driven) t work.driven_is.circuit (Contains forced) old (row_at cells t)
                b.marks.items b''.marks.items l q g ys zs fits s at was_queued level wide (λ u. (
                  λ k. elim ((links.queued u).0 k) [
                    | inl o ↦ inl ((taken.queued u).0 o)
                    | inr i ↦ inr ((reads xs read u).0 i, fresh)
                  ],
                  λ k. elim k [
                    | inl o ↦ (links.queued u).1 (inl ((taken.queued u).1 o))
                    | inr r ↦ (links.queued u).1 (inr ((reads xs read u).1 r.0))
                  ],
                )) fresh);
            evaluated_more = omega arith;
            changed_more = omega arith;
          };
        }

    pub next_latches_unchanged : (get_or (row_at cells' t) v X ≢ get_or (row_at cells t) v X → ⊥) → (marks : List Bool)
        → QueuesNextLatches driven.circuit (row_at cells t) marks (row_at cells' t) marks
    next_latches_unchanged f marks =
        let same = cell_same (row_at cells t) (row_at cells' t) v (gate_value (row_at cells t) g) row_is inside_row f in
        next_latches_same driven.circuit (row_at cells t) (row_at cells' t) marks (λ u. ap (λ (r : List Tern). slice_get r u) row_is
        ∙ set_again (row_at cells t) v (gate_value (row_at cells t) g) same u)

    pub sweeps_same : (get_or (row_at cells' t) v X ≢ get_or (row_at cells t) v X → ⊥)
        → Sweeps (pair_of driven) t l l (row_at cells t) b.marks.items (row_at cells' t) b'.marks.items 1 0
    sweeps_same f =
        let same = cell_same (row_at cells t) (row_at cells' t) v (gate_value (row_at cells t) g) row_is inside_row f in
        record {
          sweep = λ forced old ys zs fits s. record {
            evaluated_now = v ∷ ys;
            changed_now = zs;
            sweeping = rw row_is (swept_same (pair_of driven) t work.driven_is.circuit (Contains forced) old (row_at cells t)
                b.marks.items b'.marks.items l q g ys zs fits s at was_queued level wide (λ u. (
                  λ k. inl ((taken.queued u).0 k),
                  λ k. elim k [
                    | inl o ↦ (taken.queued u).1 o
                    | inr r ↦ absurd (r.1 same)
                  ],
                )) same);
            evaluated_more = omega arith;
            changed_more = omega arith;
          };
        }
