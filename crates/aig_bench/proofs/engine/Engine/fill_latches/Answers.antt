use Rattle.std.proofs.Common.{◌≡◌, List, Some, slice_get, length, ap, subst, arith}
use Rattle.aig_parts.specs.declared.latch.Latch.{Latch}
use Rattle.aig_parts.specs.Literal.{variable}
use Rattle.aig_base.specs.Value.{start_of}
use Rattle.aig_values.specs.InputRows.{row_at}
use Rattle.aig_values.proofs.Evaluation.{items_all, items_more, renews_then}
use Rattle.aig_base.proofs.lists.Items.{item_at}
use Rattle.aig_bench.specs.BenchState.{CircuitAndRows}
use Rattle.aig_bench.specs.state.Current.{HoldsInPair}
use Rattle.aig_bench.specs.state.Engine.{EngineState}
use Rattle.aig_bench.proofs.new_frames.Filling.{one_more, pair_kept}
use Rattle.aig_bench.proofs.engine.Engine.fill_latches.Goals as goal

pub loop-position-preserved : goal.loop-position-preserved
loop-position-preserved g c =
    let a = c.args.self.now in
    let b = c.loop-position.self in
    let new = c.fill_latch.new.self in
    let t = c.args.frame in
    let n = c.loop-position.position in
    let i = c.loop-position.invariant in
    let x = c.index-latches-position.result in
    let s = c.self-in-loop-position in
    let same = pair_kept a b i.fills.same in
    let first = ap (λ (e : EngineState). length e.pair.circuit.latches) c.self.view_is in
    let size = ap (λ (e : EngineState). length e.pair.circuit.latches) s.view_is in
    let kept = ap (λ (p : CircuitAndRows). length p.circuit.latches) same in
    let end = ap (λ (ls : List Latch). length ls) c.latches-position-end.ensures in
    let here : slice_get s.inside.driven.circuit.latches n ≡ Some x =
    item_at _ _ n x c.latches.ensures (rw c.latches.ensures (omega (arith, first, size, kept, end, c.loop-position-test.true)))
    c.index-latches-position.is in
    let at : slice_get a.pair.circuit.latches n ≡ Some x =
    subst (λ (p : CircuitAndRows). slice_get p.circuit.latches n ≡ Some x) same
    (subst (λ (e : EngineState). slice_get e.pair.circuit.latches n ≡ Some x) s.view_is here) in
    let more = one_more t (variable x.lit) a b new i.fills c.fill_latch.ensures in
    record {
      fills = more.row;
      keeps = renews_then a.pair.circuit (start_of a.pair.circuit) a.pair.rows t (row_at a.cells t) (row_at b.cells t) (row_at new.cells t) i.keeps more.keeps;
      latches = items_more (λ (y : Latch). HoldsInPair a.pair t (row_at new.cells t) (variable y.lit)) a.pair.circuit.latches n x at
          (λ j y below is. more.keeps.keeps (variable y.lit) (i.latches j y below is)) more.holds;
    }

pub returns-clause-latches : goal.returns-clause-latches
returns-clause-latches g c =
    let a = c.args.self.now in
    let t = c.args.frame in
    let first = ap (λ (e : EngineState). length e.pair.circuit.latches) c.self.view_is in
    let end = ap (λ (ls : List Latch). length ls) c.latches-position-end.ensures in
    items_all (λ (y : Latch). HoldsInPair a.pair t (row_at c.loop-position.self.cells t) (variable y.lit)) a.pair.circuit.latches
    c.loop-position.position (omega (arith, first, end, c.loop-position-test.false)) c.loop-position.invariant.latches
