-- States of an engine, from one call to the next.
use Rattle.std.proofs.Common.{◌≡◌, ◌≢◌, ℕ, ◌+◌, ◌<◌, ◌≤◌, Bool, List, Some, slice_get, length, Contains, refl}
use Rattle.std.proofs.Common.{sym, ap, ◌∙◌, subst, arith}
use Rattle.aig_parts.specs.declared.ternary.Tern.{Tern}
use Rattle.aig_base.specs.Levels.{AreLevels}
use Rattle.aig_base.specs.state.Marks.{IsMarked}
use Rattle.aig_values.specs.InputRows.{row_at}
use Rattle.aig_bench.specs.declared.edit.EditReport.{EditReport}
use Rattle.aig_bench.specs.declared.engine.sweep_order.Order.{Order}
use Rattle.aig_bench.specs.declared.engine.driven_circuit.DrivenCircuit.{DrivenCircuit}
use Rattle.aig_bench.specs.declared.engine.fanouts.Fanouts.{Fanouts}
use Rattle.aig_bench.specs.declared.propagate.pending.Pending.{Pending}
use Rattle.aig_bench.specs.BenchState.{CircuitAndRows}
use Rattle.aig_bench.specs.state.DrivenCircuit.{pair_of}
use Rattle.aig_bench.specs.state.Buckets.{AreLevelsEmpty}
use Rattle.aig_bench.specs.state.Engine.{EngineState, ChangesRow, IsSettled}
use Rattle.aig_bench.specs.state.Current.{AreCurrent}
use Rattle.aig_bench.specs.state.Latches.{QueuesNextLatches}
use Rattle.aig_bench.specs.state.Pending.{IsEngine, IsSettledBench, state_of}
use Rattle.aig_bench.specs.state.Passing.{IsConsistent}
use Rattle.aig_bench.specs.state.Renewed.{RenewsAll}
use Rattle.aig_bench.specs.state.Steps.{Settles, SettlesLevels}
use Rattle.aig_bench.specs.state.Sweep.{IsWork, PassEnds, PassStarts, Sweeps}
use Rattle.aig_bench.proofs.edits.Edited.{all_current, working}
use Rattle.aig_bench.proofs.carries.NextLatches.{next_latches_none, next_latches_then}
use Rattle.aig_bench.proofs.passes.Sweeps.{sweeps_none, sweeps_then, sweeps_far}
use Rattle.aig_bench.proofs.passes.SweepEnds.{ended}

pub row_none : (t : ℕ) (s : EngineState) → ChangesRow t 0 s s
row_none t s = record {
  pair = refl;
  levels = refl;
  others = λ u ne. refl;
  next_latches = next_latches_none s.pair.circuit (row_at s.cells t) s.ahead;
  evaluations = omega arith;
}

pub levels_none : (t n : ℕ) (s : EngineState) → SettlesLevels t n n s s (record { evaluated = 0; changed = 0 })
levels_none t n s = record {
  row = row_none t s;
  here = refl;
  few = omega arith;
  sweeps = sweeps_none s.pair t n (row_at s.cells t) s.queued;
}

-- it is not said which latches are carried into the frame
pub row_here : (t n : ℕ) (a b : EngineState) (here : List Bool) → ChangesRow t n a b → ChangesRow t n a (record b { here = here })
row_here t n a b here h = record {
  pair = h.pair;
  levels = h.levels;
  others = h.others;
  next_latches = h.next_latches;
  evaluations = h.evaluations;
}

module _ (t : ℕ) (a b c : EngineState) where
  pub row_then : (n m k : ℕ) → ChangesRow t n a b → ChangesRow t m b c → k ≡ n + m → ChangesRow t k a c
  row_then n m k x y is = record {
    pair = y.pair ∙ x.pair;
    levels = y.levels ∙ x.levels;
    others = λ u ne. y.others u ne ∙ x.others u ne;
    next_latches = next_latches_then a.pair.circuit _ _ _ _ _ _ x.next_latches
        (subst (λ (p : CircuitAndRows). QueuesNextLatches p.circuit (row_at b.cells t) b.ahead (row_at c.cells t) c.ahead) x.pair y.next_latches);
    evaluations = omega (arith, x.evaluations, y.evaluations);
  }

  -- levels that were settled, one after the other
  pub levels_then : (n m l : ℕ) (x y r : EditReport) → SettlesLevels t n m a b x → SettlesLevels t m l b c y
      → r.evaluated ≡ x.evaluated + y.evaluated → r.changed ≡ x.changed + y.changed → SettlesLevels t n l a c r
  levels_then n m l x y r h k e d = record {
    row = row_then x.evaluated y.evaluated r.evaluated h.row k.row e;
    here = k.here ∙ h.here;
    few = (let few = h.few in let more = k.few in omega arith);
    sweeps = rw (e, d)
        (sweeps_then a.pair t n m l (row_at a.cells t) (row_at b.cells t) (row_at c.cells t) a.queued b.queued c.queued _ _ _ _ h.sweeps
        (subst (λ (p : CircuitAndRows). Sweeps p t m l (row_at b.cells t) b.queued (row_at c.cells t) c.queued y.evaluated y.changed) h.row.pair k.sweeps));
  }

-- after them nothing of the level waits
pub levels_past : (t n : ℕ) (a b : EngineState) (x : EditReport) → AreLevels a.pair.circuit a.levels → SettlesLevels t n n a b x
    → ((u : ℕ) → IsMarked b.queued u → slice_get b.levels u ≢ Some n) → SettlesLevels t n (n + 1) a b x
levels_past t n a b x are h none = record {
  row = h.row;
  here = h.here;
  few = h.few;
  sweeps = sweeps_far a.pair t a.levels n n (n + 1) (row_at a.cells t) (row_at b.cells t) a.queued b.queued _ _ are h.sweeps (omega arith)
      (λ u l m at le lt.
      let same : l ≡ n = omega arith in
      none u m (ap (λ (ls : List ℕ). slice_get ls u) h.row.levels ∙ at ∙ ap Some same));
}

module _ (driven : DrivenCircuit) (fanouts : Fanouts) (pending : Pending) (order : Order) (flags : List Bool) (cells : List (List Tern)) (n t from : ℕ)
    (a b : EngineState) (x : EditReport) (work : IsWork driven fanouts flags cells pending.buckets)
    (is : state_of driven fanouts pending order cells n ≡ b) (h : SettlesLevels t 0 from a b x) where
  pair_is : pair_of driven ≡ a.pair
  pair_is = ap (λ (s : EngineState). s.pair) is ∙ h.row.pair

  levels_are : AreLevels a.pair.circuit a.levels
  levels_are = subst (λ (p : CircuitAndRows). AreLevels p.circuit a.levels) h.row.pair
      (subst (λ (xs : List ℕ). AreLevels b.pair.circuit xs) h.row.levels
      (subst (λ (s : EngineState). AreLevels s.pair.circuit s.levels) is work.levels))

  -- past levels of which nothing waits
  pub levels_clear : (end : ℕ) → from ≤ end → AreLevelsEmpty fanouts.levels pending.buckets from end → SettlesLevels t 0 end a b x
  levels_clear end le clear = record {
    row = h.row;
    here = h.here;
    few = h.few;
    sweeps = sweeps_far a.pair t a.levels 0 from end (row_at a.cells t) (row_at b.cells t) a.queued b.queued _ _ levels_are h.sweeps le
        (subst (λ (xs : List ℕ). (u l : ℕ) → IsMarked b.queued u → slice_get xs u ≡ Some l → from ≤ l → l < end → ⊥) h.row.levels
        (subst (λ (s : EngineState). (u l : ℕ) → IsMarked s.queued u → slice_get s.levels u ≡ Some l → from ≤ l → l < end → ⊥)
        is clear));
  }

  -- where nothing waits a pass has ended
  pub settles : (end : ℕ) → from ≤ end → length pending.buckets.head.items ≤ end
      → AreLevelsEmpty fanouts.levels pending.buckets from end → Settles t a b x
  settles end le top clear = record {
    row = h.row;
    here = h.here;
    few = h.few;
    ends = λ forced old fits start.
        subst (λ (p : CircuitAndRows). PassEnds p t (Contains forced) old (row_at b.cells t) b.queued x.evaluated x.changed) pair_is
        (subst (λ (s : EngineState). PassEnds (pair_of driven) t (Contains forced) old (row_at s.cells t) s.queued x.evaluated x.changed) is
        (ended driven fanouts flags cells pending.buckets t end x.evaluated x.changed forced old (row_at a.cells t) (row_at cells t) a.queued work top
        (subst (λ (p : CircuitAndRows). IsConsistent p (Contains forced) old) (sym pair_is) fits)
        (subst (λ (p : CircuitAndRows). PassStarts p t (Contains forced) old (row_at a.cells t) a.queued) (sym pair_is) start)
        (subst (λ (p : CircuitAndRows). Sweeps p t 0 end (row_at a.cells t) a.queued (row_at cells t) pending.buckets.marks.items x.evaluated x.changed) (sym pair_is)
        (subst (λ (s : EngineState). Sweeps a.pair t 0 end (row_at a.cells t) a.queued (row_at s.cells t) s.queued x.evaluated x.changed) (sym is)
        (levels_clear end le clear).sweeps))));
  }

-- an engine where nothing is to be looked at is what a bench keeps
pub held : {driven : DrivenCircuit} {fanouts : Fanouts} {pending : Pending} {order : Order} {flags : List Bool} {cells : List (List Tern)} {n : ℕ} {s : EngineState}
    → IsEngine driven fanouts pending order flags cells → state_of driven fanouts pending order cells n ≡ s → IsSettled s
    → IsSettledBench driven fanouts pending flags cells
held {driven = driven} {fanouts = fanouts} {pending = pending} {order = order} {flags = flags} {cells = cells} {n = n} e is h =
    let k : IsSettled (state_of driven fanouts pending order cells n) = subst IsSettled (sym is) h in
    record {
      working = working driven fanouts pending.buckets flags cells e.work k.idle.queued k.current;
      lists = e.lists;
      idle = k.idle;
    }

-- renewed frames settle
pub settled_renewed : (forced : List ℕ) (first : ℕ) (old new : EngineState) (report : EditReport)
    → AreCurrent old.pair first old.cells → RenewsAll forced first old new report → IsSettled new
settled_renewed forced first old new report now r = record {
  current = subst (λ (q : CircuitAndRows). AreCurrent q (length q.rows) new.cells) (sym r.pair)
      (all_current old.pair forced first (length old.pair.rows) _ _ old.cells new.cells now r.renewed);
  idle = r.idle;
}
