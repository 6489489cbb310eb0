-- Latches that are carried from a frame into the next one.
use Rattle.std.proofs.Common.{◌≡◌, ◌≢◌, ◌⊎◌, inl, inr, ℕ, suc, Bool, List, Option, Some, None, slice_get, slice_set}
use Rattle.std.proofs.Common.{get_or, unwrap_or, refl, sym, ap, ◌∙◌, subst}
use Rattle.std.proofs.lemmas.Bool.{cases_eq}
use Rattle.std.proofs.lemmas.Option.{slice_get_within, unwrap_or-slice_get}
use Rattle.aig_parts.specs.declared.latch.Latch.{Latch}
use Rattle.aig_parts.specs.declared.raw.Raw.{Raw}
use Rattle.aig_parts.specs.declared.ternary.Tern.{Tern}
use Rattle.aig_parts.specs.declared.ternary.Tern.TheVariants.{X}
use Rattle.aig_parts.specs.Literal.{variable}
use Rattle.aig_base.specs.state.Marks.{IsMarked}
use Rattle.aig_base.specs.Sound.{IsSound}
use Rattle.aig_values.specs.Cells.{literal_value}
use Rattle.aig_bench.specs.declared.propagate.latch_list.LatchList.{LatchList}
use Rattle.aig_bench.specs.state.Current.{HoldsInPair, IsCurrentRow}
use Rattle.aig_bench.specs.state.Latches.{TakesNextFrom, QueuesNextLatches, Lists}
use Rattle.aig_bench.specs.BenchState.{CircuitAndRows}
use Rattle.aig_bench.specs.state.Pending.{IsNextRow}
use Rattle.aig_bench.proofs.cells.CellLemmas.{get_set_same, get_set_other}
use Rattle.aig_bench.proofs.passes.PassLemmas.{same_or_other}
use Rattle.aig_bench.proofs.cells.Values.{latch_follows, latch_value}

-- a value that was there is written again
pub set_again : (row : List Tern) (u : ℕ) (w : Tern) → slice_get row u ≡ Some w → (v : ℕ)
    → slice_get (slice_set row u w) v ≡ slice_get row v
set_again row u w is v = elim (cases_eq v u) [
  | inl e ↦
      ap (slice_get (slice_set row u w)) e ∙ get_set_same row u w (slice_get_within row u w is) ∙ sym is ∙ ap (slice_get row) (sym e)
  | inr ne ↦ get_set_other row u v w ne
]

same_cell : (a b : Option Tern) → (a ≡ b) ⊎ (a ≢ b)
same_cell None None = inl refl
same_cell None (Some w) = inr (λ e. cc)
same_cell (Some w) None = inr (λ e. cc)
same_cell (Some w) (Some z) = same_or_other (Some w) z

module _ (raw : Raw) where
  pub next_latches_same : (row row' : List Tern) (marks : List Bool) → ((v : ℕ) → slice_get row' v ≡ slice_get row v)
      → QueuesNextLatches raw row marks row' marks
  next_latches_same row row' marks same = record {
    kept = λ i m. m;
    changed = λ i v f ne. absurd (ne (same v));
  }

  pub next_latches_none : (row : List Tern) (marks : List Bool) → QueuesNextLatches raw row marks row marks
  next_latches_none row marks = next_latches_same row row marks (λ v. refl)

  pub next_latches_written : (row row' : List Tern) (u : ℕ) (w : Tern) (old new : LatchList) → row' ≡ slice_set row u w
      → Lists (λ i. TakesNextFrom raw i u) old new → QueuesNextLatches raw row old.marks.items row' new.marks.items
  next_latches_written row row' u w old new is lists = record {
    kept = λ i m. (lists i).1 (inl m);
    changed = λ i v f ne. elim (cases_eq v u) [
      | inl e ↦ (lists i).1 (inr (subst (TakesNextFrom raw i) e f))
      | inr o ↦ absurd (ne (ap (λ (r : List Tern). slice_get r v) is ∙ get_set_other row u v w o))
    ];
  }

  pub next_latches_then : (a b c : List Tern) (l m n : List Bool) → QueuesNextLatches raw a l b m → QueuesNextLatches raw b m c n → QueuesNextLatches raw a l c n
  next_latches_then a b c l m n h k = record {
    kept = λ i x. k.kept i (h.kept i x);
    changed = λ i v f ne. elim (same_cell (slice_get b v) (slice_get a v)) [
      | inl e ↦ k.changed i v f (λ d. ne (d ∙ e))
      | inr d ↦ k.kept i (h.changed i v f d)
    ];
  }

module _ (p : CircuitAndRows) (t : ℕ) (sound : IsSound p.circuit) where
  -- a latch whose cell follows those before has its value where the row before is current
  pub latch_next_holds : (row row' : List Tern) (i : ℕ) (x : Latch) → slice_get p.circuit.latches i ≡ Some x → IsCurrentRow p t row
      → slice_get row' (variable x.lit) ≡ Some (literal_value row x.next) → HoldsInPair p (suc t) row' (variable x.lit)
  latch_next_holds row row' i x at now is = record {
    cell = literal_value row x.next;
    cell_is = is;
    value_is = latch_value p (suc t) i x (literal_value row x.next) sound at
        (latch_follows p (suc t) t i x row sound refl at now);
  }

  same_literal_value : (row old : List Tern) (l : ℕ) → slice_get row (variable l) ≡ slice_get old (variable l)
      → literal_value row l ≡ literal_value old l
  same_literal_value row old l e = rw (same_read row old (variable l) e) refl
    where
      same_read : (a b : List Tern) (v : ℕ) → slice_get a v ≡ slice_get b v → get_or a v X ≡ get_or b v X
      same_read a b v e = sym (unwrap_or-slice_get a v X) ∙ ap (λ (o : Option Tern). unwrap_or o X) e ∙ unwrap_or-slice_get b v X

  -- a latch that is not carried on has its value in the next row already
  pub unqueued_latch_holds : (old new next : List Tern) (before marks : List Bool) → IsCurrentRow p t new
      → QueuesNextLatches p.circuit old before new marks → IsNextRow p.circuit old next
      → (i : ℕ) (x : Latch) → slice_get p.circuit.latches i ≡ Some x → (IsMarked marks (suc i) → ⊥)
      → HoldsInPair p (suc t) next (variable x.lit)
  unqueued_latch_holds old new next before marks now next_latches follows i x at out = elim
      (same_cell (slice_get new (variable x.next)) (slice_get old (variable x.next))) [
        | inl e ↦
            latch_next_holds new next i x at now (follows i x at ∙ ap Some (sym (same_literal_value new old x.next e)))
        | inr ne ↦ absurd (out (next_latches.changed (suc i) (variable x.next) (i, x, refl, at, refl) ne))
      ]
