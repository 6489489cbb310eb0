use Rattle.std.proofs.Common.{◌≡◌, ◌≢◌, ◌⊎◌, ◌↔◌, ◌∙◌, ◌-◌, ◌<◌, inl, inr, ℕ, suc, true, Bool, List, Some, slice_get}
use Rattle.std.proofs.Common.{refl, rules, ap, subst, arith}
use Rattle.std.proofs.lemmas.Bool.{cases_eq}
use Rattle.std.proofs.lemmas.Option.{slice_get_within}
use Rattle.aig_base.proofs.lists.Items.{item_at}
use Rattle.aig_parts.specs.Literal.{variable}
use Rattle.aig_base.specs.state.Marks.{IsMarked}
use Rattle.aig_base.specs.Sound.{IsSound}
use Rattle.aig_values.specs.InputRows.{row_at}
use Rattle.aig_bench.specs.BenchState.{CircuitAndRows}
use Rattle.aig_bench.specs.state.Engine.{EngineState}
use Rattle.aig_bench.specs.state.Entry.{Puts}
use Rattle.aig_bench.proofs.renewals.Engines.{row_here, row_then}
use Rattle.aig_bench.specs.state.DrivenCircuit.{pair_of}
use Rattle.aig_bench.proofs.carries.Carrying.{before_kept, carries_more, carries_fewer}
use Rattle.aig_bench.proofs.carries.LatchLists.{listed_less}
use Rattle.aig_bench.proofs.engine.Engine.carry.Goals as goal

taken_or : (start old new : List Bool) (number : ℕ) → 0 < number
    → ((j : ℕ) → IsMarked new j ↔ (IsMarked old j × (j ≢ number))) → (i : ℕ)
    → IsMarked start (suc i) × (IsMarked new (suc i) → ⊥)
    → (i ≡ number - 1) ⊎ (IsMarked start (suc i) × (IsMarked old (suc i) → ⊥))
taken_or start old new number positive left i k = elim (cases_eq (suc i) number) [
  | inl e ↦ inl (omega arith)
  | inr ne ↦ inr (k.0, λ m. k.1 ((left (suc i)).1 (m, ne)))
]

pub loop-number-smaller : goal.loop-number-smaller
loop-number-smaller g c =
    let h = c.self.invariant.lists.here in
    rw (c.put_latch.ensures.here, ← c.self.view_is)
    (listed_less _ c.in-Some.number c.self.inside.pending.here c.take.new.self h (c.in-Some.ensures.list _ h)
    c.in-Some.ensures.listed c.in-Some.ensures.left)

pub loop-number-preserved : goal.loop-number-preserved
loop-number-preserved g c =
    let i = c.loop-number.invariant in
    let k = c.put_latch.ensures in
    let x = c.index-latches-number.result in
    let number = c.in-Some.number in
    let inside = slice_get_within c.self.inside.pending.here.marks.items number true c.in-Some.ensures.listed in
    let size = c.self.invariant.lists.here.size in
    let positive = c.in-Some.ensures.positive in
    let p = c.args.self.now.pair in
    let s = c.self.inside in
    let same : pair_of s.driven ≡ p = ap (λ (x : EngineState). x.pair) c.self.view_is ∙ i.row.pair in
    let at : slice_get s.driven.circuit.latches (number - 1) ≡ Some x =
    item_at _ _ (number - 1) x c.latches.ensures (rw c.latches.ensures (omega arith)) c.index-latches-number.is in
    let rows = rw (← c.self.view_is) at i.row in
    let carries = rw (← c.self.view_is) at i.carries in
    record {
      frame = rw k.row.pair (rw (← c.self.view_is) at i.frame);
      before = rw k.row.pair (before_kept (pair_of s.driven) c.args.frame _ _ (rw (← c.self.view_is) at i.before) k.row.others);
      row = row_then c.args.frame _ _ _ _ _ _ (row_here c.args.frame 0 _ _ c.take.new.self.marks.items rows) k.row refl;
      carries = rw k.here (carries_more p c.args.frame
          (subst (λ (q : CircuitAndRows). IsSound q.circuit) same c.self.invariant.work.driven_is.circuit.sound)
          (λ j. IsMarked c.args.self.now.here (suc j) × (IsMarked s.pending.here.marks.items (suc j) → ⊥))
          (λ j. IsMarked c.args.self.now.here (suc j) × (IsMarked c.take.new.self.marks.items (suc j) → ⊥))
          (number - 1) x _ _ _ _ _ _
          (subst (λ (q : CircuitAndRows). slice_get q.circuit.latches (number - 1) ≡ Some x) same at) carries
          (subst (λ (q : CircuitAndRows). Puts q c.args.frame (variable x.lit) (row_at (g.G.Grid.cells s.grid) c.args.frame)
          s.pending.buckets.marks.items (row_at c.put_latch.new.self.cells c.args.frame) c.put_latch.new.self.queued) same k.puts)
          (taken_or c.args.self.now.here s.pending.here.marks.items c.take.new.self.marks.items number positive c.in-Some.ensures.left));
    }

pub returns : goal.returns
returns g c =
    let s = c.args.self.now in
    let here = c.self.inside.pending.here.marks.items in
    record {
      row = search rules;
      none = search rules;
      carries = carries_fewer s.pair c.args.frame (λ j. IsMarked s.here (suc j) × (IsMarked here (suc j) → ⊥))
          (λ j. IsMarked s.here (suc j)) _ _ _ _ (λ j k. (k, c.in_default.ensures.none (suc j)))
          (rw (← c.self.view_is) at c.loop-number.invariant.carries);
    }
