-- One more frame is renewed: gates are forced, and a pass goes over it.
use Rattle.std.proofs.Common.{◌≡◌, ◌≢◌, ◌↔◌, ◌⊎◌, ◌∙◌, inr, ℕ, suc, ◌+◌, ◌<◌, ◌≤◌, Bool, List, [], ◌∷◌, Some, slice_get}
use Rattle.std.proofs.Common.{length, Contains, refl, sym, ap, subst, arith}
use Rattle.aig_parts.specs.declared.ternary.Tern.{Tern}
use Rattle.aig_parts.specs.Literal.{variable}
use Rattle.aig_base.specs.state.Marks.{IsMarked}
use Rattle.aig_base.specs.Sound.{IsSound}
use Rattle.aig_values.specs.InputRows.{row_at}
use Rattle.aig_bench.specs.declared.edit.EditReport.{EditReport}
use Rattle.aig_bench.specs.declared.engine.sweep_order.Order.{Order}
use Rattle.aig_bench.specs.declared.engine.driven_circuit.DrivenCircuit.{DrivenCircuit}
use Rattle.aig_bench.specs.declared.engine.fanouts.Fanouts.{Fanouts}
use Rattle.aig_bench.specs.declared.propagate.pending.Pending.{Pending}
use Rattle.aig_bench.specs.BenchState.{CircuitAndRows}
use Rattle.aig_bench.specs.state.Current.{HoldsInPair, HoldsLatchesInPair, IsCurrentBefore, IsCurrentRow}
use Rattle.aig_bench.specs.state.Engine.{EngineState, IsClear}
use Rattle.aig_bench.specs.state.Entry.{Entering, LatchesRest, HasOtherSources}
use Rattle.aig_bench.specs.state.Latches.{QueuesNextLatches}
use Rattle.aig_bench.specs.state.Passing.{IsConsistent}
use Rattle.aig_bench.specs.state.Pending.{IsNextRow, state_of}
use Rattle.aig_bench.specs.state.Renewed.{AreStaleFrom, IsStaleFrom, IsStaleFromBit, Renewed, RenewsAll, RenewsUpTo}
use Rattle.aig_bench.specs.state.Steps.{PassesOver, PutsSource}
use Rattle.aig_bench.specs.state.Sweep.{IsWork, PassEnds}
use Rattle.aig_bench.proofs.carries.Carrying.{before_here, entering_forced, entering_put}
use Rattle.aig_bench.proofs.carries.NextLatches.{next_latches_then, unqueued_latch_holds}
use Rattle.aig_bench.proofs.carries.Quiet.{stopped}
use Rattle.aig_bench.proofs.renewals.RenewalLemmas.{renewed_none, renewed_one, renewed_join}

-- what a pass of an engine ensures, said of the pair
passed : (p : CircuitAndRows) (t : ℕ) (f m : EngineState) (r : EditReport) → f.pair ≡ p → PassesOver t f m r → (forced : List ℕ) (old : List Tern) (put : List ℕ)
    → IsConsistent p (Contains forced) old → Entering p t (Contains forced) old (row_at f.cells t) f.queued put
    → HasOtherSources p t old put → LatchesRest p t old f.here → PassEnds p t (Contains forced) old (row_at m.cells t) m.queued r.evaluated r.changed
passed p t f m r is pass forced old put = subst (λ (q : CircuitAndRows). IsConsistent q (Contains forced) old
    → Entering q t (Contains forced) old (row_at f.cells t) f.queued put → HasOtherSources q t old put
    → LatchesRest q t old f.here → PassEnds q t (Contains forced) old (row_at m.cells t) m.queued r.evaluated r.changed) is (pass.ends forced old put)

-- the latches that are not carried on have their values in the next row
unqueued_latches : (p : CircuitAndRows) (sound : IsSound p.circuit) (t : ℕ) (old new : List Tern) (cells : List (List Tern)) (before marks : List Bool)
    → IsCurrentRow p t new → QueuesNextLatches p.circuit old before new marks → IsNextRow p.circuit old (row_at cells (suc t))
    → LatchesRest p (t + 1) (row_at cells (t + 1)) marks
unqueued_latches p sound t old new cells before marks now next_latches follows j x at out =
    let is : suc t ≡ t + 1 = omega arith in
    subst (λ (n : ℕ). HoldsInPair p n (row_at cells n) (variable x.lit)) is
    (unqueued_latch_holds p t sound old new (row_at cells (suc t)) before marks now next_latches follows j x at out)

-- the engine in which the frames went on to the next one
abbrev advanced : EngineState → EngineState
advanced m = record m { here = m.ahead; ahead = m.here }

module _ (forced : List ℕ) (first t : ℕ) (a s f : EngineState) (e : EditReport) (sound : IsSound a.pair.circuit)
    (stale : IsStaleFrom a forced first) (le : first ≤ t) (lt : t < length a.pair.rows) (h : RenewsUpTo forced first t a s e)
    (same : f ≡ record s { queued = f.queued; heads = f.heads })
    (queued : (v : ℕ) → IsMarked f.queued v ↔ (IsMarked s.queued v ⊎ Contains forced v)) where
  abbrev p : CircuitAndRows
  p = a.pair

  abbrev row : List Tern
  row = row_at a.cells t

  pair_kept : f.pair ≡ p
  pair_kept = ap (λ (x : EngineState). x.pair) same ∙ h.pair

  cells_kept : f.cells ≡ s.cells
  cells_kept = ap (λ (x : EngineState). x.cells) same

  pub before_pass : IsCurrentBefore f.pair t f.cells
  before_pass = rw (pair_kept, cells_kept) (before_here p forced first t _ _ a.cells s.cells h.renewed le stale.cells.before)

  -- the row is the one of before
  row_is : row_at s.cells t ≡ row
  row_is = h.renewed.others t (inr (omega arith))

  f_row : row_at f.cells t ≡ row
  f_row = ap (λ (c : List (List Tern)). row_at c t) cells_kept ∙ row_is

  module _ (m : EngineState) (x r : EditReport) (pass : PassesOver t f m x) (evaluated : r.evaluated ≡ e.evaluated + x.evaluated)
      (changed : r.changed ≡ e.changed + x.changed) where
    ends : PassEnds p t (Contains forced) row (row_at m.cells t) m.queued x.evaluated x.changed
    ends =
        let c = stale.cells.consistent t le lt in
        passed p t f m x pair_kept pass forced row [] c.0
        (subst (λ (r : List Tern). Entering p t (Contains forced) row r f.queued []) (sym f_row)
        (entering_forced p t forced row sound s.queued f.queued h.queued queued)) c.1
        (subst (LatchesRest p t row) (sym (ap (λ (x : EngineState). x.here) same))
        (subst (λ (r : List Tern). LatchesRest p t r s.here) row_is (h.carried lt)))

    others : (u : ℕ) → t < u → row_at m.cells u ≡ row_at a.cells u
    others u more = pass.row.others u (λ k. omega arith) ∙ ap (λ (c : List (List Tern)). row_at c u) cells_kept
        ∙ h.renewed.others u (inr (omega arith))

    renewed : Renewed p forced first (t + 1) a.cells m.cells r.evaluated r.changed
    renewed = rw (evaluated, changed) (renewed_join p forced first t (t + 1) _ _ _ _ a.cells s.cells m.cells le (omega arith) h.renewed
        (renewed_one p forced t _ _ s.cells m.cells m.queued
        (λ u ne. pass.row.others u ne ∙ ap (λ (c : List (List Tern)). row_at c u) cells_kept)
        (subst (λ (r : List Tern). PassEnds p t (Contains forced) r (row_at m.cells t) m.queued x.evaluated x.changed) (sym row_is) ends)))

    carried : t + 1 < length p.rows → LatchesRest p (t + 1) (row_at m.cells (t + 1)) m.ahead
    carried more =
        unqueued_latches p sound t row (row_at m.cells t) m.cells f.ahead m.ahead ends.current
        (subst (λ (r : List Tern). QueuesNextLatches p.circuit r f.ahead (row_at m.cells t) m.ahead) f_row
        (subst (λ (q : CircuitAndRows). QueuesNextLatches q.circuit (row_at f.cells t) f.ahead (row_at m.cells t) m.ahead) pair_kept pass.row.next_latches))
        (subst (IsNextRow p.circuit row) (sym (others (suc t) (omega arith))) (stale.cells.next t le (omega arith)))

    -- one frame more is renewed
    pub renews_more : RenewsUpTo forced first (t + 1) a (advanced m) r
    renews_more = record {
      pair = pass.row.pair ∙ pair_kept;
      queued = ends.empty;
      ahead = pass.none;
      count =
          (let kept : f.evaluations ≡ s.evaluations = ap (λ (x : EngineState). x.evaluations) same in
          let before = h.count in
          let more = pass.row.evaluations in
          omega arith);
      few = (let few = h.few in let more = pass.few in omega arith);
      renewed = renewed;
      carried = carried;
    }

-- no frame is renewed yet
pub renews_none : (forced : List ℕ) (first : ℕ) (s : EngineState) → IsStaleFrom s forced first
    → RenewsUpTo forced first first s s (record { evaluated = 0; changed = 0 })
renews_none forced first s h = record {
  pair = refl;
  queued = h.queued;
  ahead = h.ahead;
  count = omega arith;
  few = omega arith;
  renewed = renewed_none s.pair forced first s.cells;
  carried = h.carried;
}

-- all frames are renewed, and the latches that are left are of no frame
pub renews_all : (forced : List ℕ) (first t : ℕ) (a s : EngineState) (r : EditReport) (here : List Bool) → RenewsUpTo forced first t a s r
    → t ≡ length a.pair.rows → IsClear here → RenewsAll forced first a (record s { here = here }) r
renews_all forced first t a s r here h e none = record {
  pair = h.pair;
  idle = record { queued = h.queued; here = none; ahead = h.ahead };
  count = h.count;
  few = h.few;
  renewed = subst (λ (n : ℕ). Renewed a.pair forced first n a.cells s.cells r.evaluated r.changed) e h.renewed;
}

-- nothing is carried into the frame, and no gates are forced: all frames that are left stay
pub renews_stopped : (driven : DrivenCircuit) (fanouts : Fanouts) (pending : Pending) (order : Order) (flags : List Bool) (now : List (List Tern)) (n : ℕ) (a s : EngineState)
    → IsWork driven fanouts flags now pending.buckets → state_of driven fanouts pending order now n ≡ s
    → (forced : List ℕ) (first t : ℕ) (r : EditReport) → length forced ≡ 0 → first ≤ t → t ≤ length a.pair.rows
    → IsStaleFrom a forced first → RenewsUpTo forced first t a s r → IsClear s.here → RenewsAll forced first a s r
renews_stopped driven fanouts pending order flags now n a s work is forced first t r size le end stale h none = record {
  pair = h.pair;
  idle = record { queued = h.queued; here = none; ahead = h.ahead };
  count = h.count;
  few = h.few;
  renewed = (subst (λ (q : CircuitAndRows). t ≤ length q.rows → AreStaleFrom q a.cells forced first
      → Renewed q forced first t a.cells s.cells r.evaluated r.changed → (t < length q.rows → HoldsLatchesInPair q t (row_at s.cells t))
      → Renewed q forced first (length q.rows) a.cells s.cells r.evaluated r.changed)
      (ap (λ (x : EngineState). x.pair) is ∙ h.pair)
      (λ end stale renewed latches. stopped driven fanouts flags now pending.buckets work
      (subst (λ (x : EngineState). IsClear x.queued) (sym is) h.queued) (length driven.stimulus.rows) first t _ _ forced a.cells s.cells size
      renewed le end stale.consistent stale.next latches)) end stale.cells h.renewed (λ lt j x at. h.carried lt j x at (none (suc j)));
}

-- an input was put
module _ (s f : EngineState) (sound : IsSound s.pair.circuit) (t i l : ℕ) (stale : IsStaleFromBit s t i)
    (lt : t < length s.pair.rows) (at : slice_get s.pair.circuit.inputs i ≡ Some l) (put : PutsSource t (variable l) s f) where
  pub before_bit : IsCurrentBefore f.pair t f.cells
  before_bit u is =
      let ne : u ≢ t = λ k. omega arith in
      subst (λ (q : CircuitAndRows). IsCurrentRow q u (row_at f.cells u)) (sym put.row.pair)
      (subst (IsCurrentRow s.pair u) (sym (put.row.others u ne)) (stale.before u is))

  module _ (m : EngineState) (x : EditReport) (pass : PassesOver t f m x) where
    pair_is : m.pair ≡ s.pair
    pair_is = pass.row.pair ∙ put.row.pair

    ends_bit : PassEnds s.pair t (Contains []) (row_at s.cells t) (row_at m.cells t) m.queued x.evaluated x.changed
    ends_bit =
        passed s.pair t f m x put.row.pair pass [] (row_at s.cells t) (variable l ∷ []) (stale.consistent t (omega arith) lt)
        (entering_put s.pair t (variable l) sound s.queued f.queued (row_at s.cells t) (row_at f.cells t) stale.idle.queued put.puts)
        (stale.here l at) (λ j x is out. stale.latches j x is)

    others_bit : (u : ℕ) → u ≢ t → row_at m.cells u ≡ row_at s.cells u
    others_bit u ne = pass.row.others u ne ∙ put.row.others u ne

    over : (u : ℕ) → t < u → row_at s.cells u ≡ row_at m.cells u
    over u more = sym (others_bit u (λ k. omega arith))

    cells_stale : AreStaleFrom s.pair m.cells [] (t + 1)
    cells_stale = record {
      first_is = omega arith;
      before = λ u is.
          let e : t ≡ u = omega arith in subst (λ (n : ℕ). IsCurrentRow s.pair n (row_at m.cells n)) e ends_bit.current;
      gates = λ v k. absurd (omega (arith, k.1));
      consistent = λ u le inside. subst (λ (r : List Tern). IsConsistent s.pair (Contains []) r × HasOtherSources s.pair u r []) (over u (omega arith))
          (stale.consistent u (omega arith) inside, stale.stale u (omega arith) inside);
      next = λ u le inside. subst (λ (r : List Tern). IsNextRow s.pair.circuit r (row_at m.cells (suc u))) (over u (omega arith))
          (subst (IsNextRow s.pair.circuit (row_at s.cells u)) (over (suc u) (omega arith)) (stale.next u (omega arith) inside));
    }

    carried_bit : t + 1 < length s.pair.rows → LatchesRest s.pair (t + 1) (row_at m.cells (t + 1)) m.ahead
    carried_bit more =
        unqueued_latches s.pair sound t (row_at s.cells t) (row_at m.cells t) m.cells s.ahead m.ahead ends_bit.current
        (next_latches_then s.pair.circuit (row_at s.cells t) (row_at f.cells t) (row_at m.cells t) s.ahead f.ahead m.ahead put.row.next_latches
        (subst (λ (q : CircuitAndRows). QueuesNextLatches q.circuit (row_at f.cells t) f.ahead (row_at m.cells t) m.ahead) put.row.pair pass.row.next_latches))
        (subst (IsNextRow s.pair.circuit (row_at s.cells t)) (over (suc t) (omega arith)) (stale.next t (omega arith) (omega arith)))

    -- the frames after it are left
    pub stale_from_bit : IsStaleFrom (advanced m) [] (t + 1)
    stale_from_bit = record {
      queued = ends_bit.empty;
      ahead = pass.none;
      cells = subst (λ (q : CircuitAndRows). AreStaleFrom q m.cells [] (t + 1)) (sym pair_is) cells_stale;
      carried = subst (λ (q : CircuitAndRows). t + 1 < length q.rows → LatchesRest q (t + 1) (row_at m.cells (t + 1)) m.ahead) (sym pair_is) carried_bit;
    }

    -- with them all are renewed
    pub renews_bit : (n : EngineState) (y r : EditReport) → RenewsAll [] (t + 1) (advanced m) n y
        → r.evaluated ≡ x.evaluated + y.evaluated → r.changed ≡ x.changed + y.changed → RenewsAll [] t s n r
    renews_bit n y r rest evaluated changed = record {
      pair = rest.pair ∙ pair_is;
      idle = rest.idle;
      count =
          (let first = put.row.evaluations in let more = pass.row.evaluations in let all = rest.count in omega arith);
      few = (let few = pass.few in let more = rest.few in omega arith);
      renewed = rw (evaluated, changed) (renewed_join s.pair [] t (t + 1) (length s.pair.rows) _ _ _ _ s.cells m.cells n.cells
          (omega arith) (omega arith) (renewed_one s.pair [] t _ _ s.cells m.cells m.queued others_bit ends_bit)
          (subst (λ (q : CircuitAndRows). Renewed q [] (t + 1) (length q.rows) m.cells n.cells y.evaluated y.changed) pair_is rest.renewed));
    }
