use Rattle.std.proofs.Common.{◌≡◌, ◌+◌, ◌<◌, refl, arith, length, ap, sym, subst}
use Rattle.aig_values.specs.InputRows.{row_at}
use Rattle.aig_bench.specs.declared.engine.sweep_order.Way.{Way}
use Rattle.aig_bench.specs.BenchState.{CircuitAndRows}
use Rattle.aig_bench.specs.state.Current.{IsCurrentRow, IsNext}
use Rattle.aig_bench.specs.state.Engine.{EngineState}
use Rattle.aig_bench.specs.state.SweepOrder.{IsKnownOrder}
use Rattle.aig_bench.proofs.edits.Edited.{before_first, current_more, fewer_current, none_current}
use Rattle.aig_bench.proofs.new_frames.Filling.{cells_then, pair_kept}
use Rattle.aig_bench.proofs.passes.EveryGate.{none_yet, once_more}
use Rattle.aig_bench.proofs.engine.Engine.fill_all.Goals as goal

pub loop-frame-init : goal.loop-frame-init
loop-frame-init g c =
    let a = c.args.self.now in
    record {
      fills = refl;
      current = none_current a.pair a.cells;
      count = none_yet a.evaluations (length a.pair.circuit.gates);
    }

pub fill-requires-clause-known : goal.fill-requires-clause-known
fill-requires-clause-known g c =
    subst (λ (w : Way). IsKnownOrder w) (sym (ap (λ (s : EngineState). s.way) c.loop-frame.invariant.fills)) c.requires.known

pub fill-requires-clause-next : goal.fill-requires-clause-next
fill-requires-clause-next g c =
    let i = c.loop-frame.invariant in
    let a = c.args.self.now in
    let size : length c.self.inside.driven.stimulus.rows ≡ length a.pair.rows = ap (λ (x : EngineState). length x.pair.rows) c.self.view_is in
    let lt : c.loop-frame.frame < length a.pair.rows = omega (arith, c.frames-frame-end.ensures.frames) in
    subst (λ (p : CircuitAndRows). IsNext p c.loop-frame.frame c.loop-frame.self.cells) (sym (pair_kept a c.loop-frame.self i.fills))
    (record { frame = lt; before = before_first a.pair c.loop-frame.frame _ i.current })

pub loop-frame-preserved : goal.loop-frame-preserved
loop-frame-preserved g c =
    let a = c.args.self.now in
    let b = c.loop-frame.self in
    let new = c.fill.new.self in
    let t = c.loop-frame.frame in
    let i = c.loop-frame.invariant in
    let same = pair_kept a b i.fills in
    let gates = length a.pair.circuit.gates in
    record {
      fills = cells_then a b new i.fills c.fill.ensures.fills.same;
      current = current_more a.pair t b.cells new.cells i.current
          (subst (λ (p : CircuitAndRows). IsCurrentRow p t (row_at new.cells t)) same c.fill.ensures.current) c.fill.ensures.fills.others;
      count = once_more gates t _ _ _ i.count
          (subst (λ (p : CircuitAndRows). new.evaluations ≡ b.evaluations + length p.circuit.gates) same c.fill.ensures.fills.count);
    }

pub returns-clause-current : goal.returns-clause-current
returns-clause-current g c =
    let a = c.args.self.now in
    let size = ap (λ (s : EngineState). length s.pair.rows) c.self.view_is in
    fewer_current a.pair _ c.loop-frame.frame _
    (omega (arith, size, c.loop-frame-test.false, c.frames-frame-end.ensures.frames)) c.loop-frame.invariant.current

pub returns-clause-count : goal.returns-clause-count
returns-clause-count g c =
    let size = ap (λ (s : EngineState). length s.pair.rows) c.self.view_is in
    let e : c.loop-frame.frame ≡ length c.args.self.now.pair.rows =
    omega (arith, size, c.loop-frame-test.false, c.loop-frame.auto.frame-end, c.frames-frame-end.ensures.frames) in
    rw (← e) c.loop-frame.invariant.count
