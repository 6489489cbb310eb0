-- What the writing of a source does to grid and buckets.
use Rattle.std.proofs.Common.{◌≡◌, ◌≢◌, ◌⊎◌, ◌↔◌, inl, inr, ℕ, ◌+◌, ◌*◌, ◌<◌, ◌≤◌, Bool, false, List, length, Option}
use Rattle.std.proofs.Common.{Some, slice_get, slice_set, Contains, ap, sym, ◌∙◌, subst, arith}
use Rattle.aig_parts.specs.declared.ternary.Tern.{Tern}
use Rattle.aig_parts.specs.Formed.{limit}
use Rattle.aig_base.specs.Grounded as by
use Rattle.aig_base.specs.Grounded.{IsSource, Level}
use Rattle.aig_base.specs.Levels.{AreLevels}
use Rattle.aig_base.specs.Sections.{IsGate}
use Rattle.aig_base.proofs.circuits.Circuits.{gate_definition, gate_in_range, gate_is}
use Rattle.aig_base.proofs.circuits.Gates.{level_in_range}
use Rattle.aig_base.proofs.levels.OneLevel.{level_of_gate}
use Rattle.aig_values.specs.InputRows.{row_at, with_cell}
use Rattle.aig_bench.specs.declared.propagate.buckets.Buckets.{Buckets}
use Rattle.aig_bench.specs.declared.engine.driven_circuit.DrivenCircuit.{DrivenCircuit}
use Rattle.aig_bench.specs.declared.engine.fanouts.Fanouts.{Fanouts}
use Rattle.aig_bench.specs.state.Buckets.{AreBuckets, IsQueued, CanBeQueued, Links}
use Rattle.aig_bench.specs.state.Current.{IsLaidOut}
use Rattle.aig_bench.specs.BenchState.{HasValue}
use Rattle.aig_bench.specs.state.DrivenCircuit.{IsDriven, pair_of}
use Rattle.aig_bench.proofs.carries.Carrying.{puts}
use Rattle.aig_bench.specs.declared.propagate.latch_list.LatchList.{LatchList}
use Rattle.aig_bench.specs.state.Latches.{TakesNextFrom, QueuesNextLatches, Lists}
use Rattle.aig_bench.proofs.cells.CellLemmas.{row_written, row_other}
use Rattle.aig_bench.proofs.carries.NextLatches.{next_latches_same, next_latches_written, set_again}
use Rattle.aig_bench.specs.state.Entry.{Puts}
use Rattle.aig_base.specs.Readers.{list_of, ReadsVariable, AreReaders}
use Rattle.aig_bench.specs.state.Sweep.{IsWork}
use Rattle.aig_bench.specs.state.Waiting.{HaveSides}
use Rattle.aig_bench.proofs.cells.Flags.{source_flag}
use Rattle.aig_bench.proofs.passes.SweepSteps.{laid_out_written, each_reader}
use Rattle.aig_base.proofs.levels.LevelBound.{level_bound}

module _ (driven : DrivenCircuit) (fanouts : Fanouts) (flags : List Bool) (cells : List (List Tern)) (b : Buckets) (t v : ℕ)
    (work : IsWork driven fanouts flags cells b) (lt : t < length driven.stimulus.rows) (positive : 0 < v)
    (source : IsSource driven.circuit v) where
  pub in_range : v ≤ driven.circuit.max_var
  in_range = level_in_range driven.circuit work.driven_is.circuit.sound (by.Level.source v source)

  pub inside_flags : v < length flags
  inside_flags = omega (arith, in_range, work.laid_out.flags_are.size)

  pub inside_readers : v < length fanouts.readers.lists
  inside_readers = omega (arith, in_range, work.readers.size)

  pub no_gate : slice_get flags v ≡ Some false
  no_gate = source_flag driven.circuit flags v work.driven_is.circuit.sound work.laid_out.flags_are in_range source

  pub put_work : (flags' : List Bool) (cells' : List (List Tern)) (w : Tern) → cells' ≡ with_cell cells t v w
      → flags' ≡ flags → IsWork driven fanouts flags' cells' b
  put_work flags' cells' w is same = record {
    driven_is = work.driven_is;
    laid_out = laid_out_written driven t v w flags flags' cells cells' work.laid_out is lt positive same;
    levels = work.levels;
    readers = work.readers;
    buckets = work.buckets;
    sides = work.sides;
    size = work.size;
    heads = work.heads;
    gates = work.gates;
  }

  module _ (cells' : List (List Tern)) (w : Tern) (is : cells' ≡ with_cell cells t v w) where
    row_is : row_at cells' t ≡ slice_set (row_at cells t) v w
    row_is = ap (λ (c : List (List Tern)). row_at c t) is
        ∙ row_written cells t v w (omega (arith, lt, work.laid_out.rows_are.frames_are))

    -- what a change of the cell carries on
    pub put_next_latches : (old new : LatchList) → Lists (λ i. TakesNextFrom driven.circuit i v) old new
        → QueuesNextLatches driven.circuit (row_at cells t) old.marks.items (row_at cells' t) new.marks.items
    put_next_latches old new lists = next_latches_written driven.circuit (row_at cells t) (row_at cells' t) v w old new row_is lists

    pub put_next_latches_none : (a : Tern) → slice_get (row_at cells t) v ≡ Some a → a ≡ w → (marks : List Bool)
        → QueuesNextLatches driven.circuit (row_at cells t) marks (row_at cells' t) marks
    put_next_latches_none a at same marks =
        next_latches_same driven.circuit (row_at cells t) (row_at cells' t) marks (λ u. ap (λ (r : List Tern). slice_get r u) row_is
        ∙ set_again (row_at cells t) v w (at ∙ ap Some same) u)

    pub put_others : (u : ℕ) → u ≢ t → row_at cells' u ≡ row_at cells u
    put_others u ne = ap (λ (c : List (List Tern)). row_at c u) is ∙ row_other cells t v w u ne

  pub put_moves : (cells' : List (List Tern)) (w : Tern) (b' : Buckets) → cells' ≡ with_cell cells t v w
      → HasValue (pair_of driven) t (2 * v) w
      → ((u : ℕ) → IsQueued b' u ↔ (IsQueued b u ⊎ (ReadsVariable driven.circuit u v × (slice_get (row_at cells t) v ≢ Some w))))
      → Puts (pair_of driven) t v (row_at cells t) b.marks.items (row_at cells' t) b'.marks.items
  put_moves cells' w b' is value moved =
      puts (pair_of driven) t work.driven_is.circuit.sound v w (row_at cells t) (row_at cells' t) b.marks.items b'.marks.items
      source (omega (arith, in_range, work.laid_out.rows_are.widths t lt)) (row_is cells' w is) value moved

module _ (driven : DrivenCircuit) (fanouts : Fanouts) (flags : List Bool) (cells : List (List Tern)) (b : Buckets) (v : ℕ) (xs : List ℕ)
    (work : IsWork driven fanouts flags cells b) (read : xs ≡ list_of fanouts.readers v) (le : v ≤ driven.circuit.max_var) where
  reads : (u : ℕ) → Contains xs u ↔ ReadsVariable driven.circuit u v
  reads = each_reader driven.circuit fanouts.readers xs v work.readers le read

  gate_reads : (u : ℕ) → Contains xs u → IsGate driven.circuit u
  gate_reads u i =
      let (r, x, there, is, side) = (reads u).0 i in
      subst (IsGate driven.circuit) is (gate_is driven.circuit r x there)

  pub source_readers_fit : (u : ℕ) → Contains xs u → CanBeQueued fanouts.levels (length b.head.items) u
  source_readers_fit u i =
      let (r, x, there, is, side) = (reads u).0 i in
      let d = gate_definition driven.circuit work.driven_is.circuit.sound r x there in
      let k = gate_in_range driven.circuit work.driven_is.circuit.sound r x there in
      let h = gate_reads u i in
      record {
        positive = omega arith;
        inside = omega (arith, work.levels.size);
        level = λ m stands. work.heads u m h
            (level_of_gate driven.circuit fanouts.levels u m work.levels work.driven_is.circuit.acyclic h stands);
      }

  pub source_linked : (b' : Buckets) → AreBuckets fanouts.levels b' → Links (Contains xs) b b'
      → IsWork driven fanouts flags cells b'
  source_linked b' are links = record {
    driven_is = work.driven_is;
    laid_out = work.laid_out;
    levels = work.levels;
    readers = work.readers;
    buckets = are;
    sides = subst (HaveSides driven.circuit) (sym links.sides) work.sides;
    size = omega (arith, work.size, links.heads);
    heads = λ u n k h. let below = work.heads u n k h in omega (arith, links.heads);
    gates = λ u k. elim ((links.queued u).0 k) [ inl o ↦ work.gates u o | inr i ↦ gate_reads u i ];
  }

  pub queued_put : (b' : Buckets) (Q : Type 0) → Q → Links (Contains xs) b b'
      → (u : ℕ) → IsQueued b' u ↔ (IsQueued b u ⊎ (ReadsVariable driven.circuit u v × Q))
  queued_put b' Q holds links u = (
    λ k. elim ((links.queued u).0 k) [ inl o ↦ inl o | inr i ↦ inr ((reads u).0 i, holds) ],
    λ k. elim k [
      | inl o ↦ (links.queued u).1 (inl o)
      | inr r ↦ (links.queued u).1 (inr ((reads u).1 r.0))
    ],
  )

pub not_the_value : (o : Option Tern) (a w : Tern) → o ≡ Some a → a ≢ w → o ≢ Some w
not_the_value o a w is ne e = ne (cc)

-- new buckets
pub new_work : (driven : DrivenCircuit) (fanouts : Fanouts) (b : Buckets) → IsDriven driven → AreLevels driven.circuit fanouts.levels
    → AreReaders driven.circuit fanouts.readers → length b.head.items ≡ driven.circuit.max_var + 1
    → AreBuckets fanouts.levels b → HaveSides driven.circuit b.marks.sides
    → ((v : ℕ) → IsQueued b v → ⊥) → (flags : List Bool) (cells : List (List Tern)) → IsLaidOut driven flags cells
    → IsWork driven fanouts flags cells b
new_work driven fanouts b p levels readers size are sides empty flags cells laid_out = record {
  driven_is = p;
  laid_out = laid_out;
  levels = levels;
  readers = readers;
  buckets = are;
  sides = sides;
  size = omega arith;
  heads = λ v n g l. let le = level_bound driven.circuit p.circuit.sound l in omega arith;
  gates = λ v k. absurd (empty v k);
}

-- a circuit has no more variables than the limit and 0
pub few_variables : (driven : DrivenCircuit) → IsDriven driven → driven.circuit.max_var + 1 ≤ limit + 1
few_variables driven p = let h = p.circuit.formed.counts.max_var in omega arith

-- nothing more waits where the cell has the value already
pub queued_kept : (b : Buckets) (R : ℕ → ℕ → Type 0) (v : ℕ) (o : Option Tern) (a w : Tern) → o ≡ Some a → a ≡ w → (u : ℕ)
    → IsQueued b u ↔ (IsQueued b u ⊎ (R u v × (o ≢ Some w)))
queued_kept b R v o a w is e u = (λ m. inl m, λ k. elim k [ inl m ↦ m | inr r ↦ absurd (r.1 (is ∙ ap Some e)) ])
