use Rattle.std.proofs.Common.{◌≡◌, ◌<◌, length, ap, sym, subst, arith}
use Rattle.std.proofs.lemmas.Bool.{eqb-true}
use Rattle.aig_base.specs.Sections.{IsGate}
use Rattle.aig_base.specs.Sound.{IsSound}
use Rattle.aig_bench.specs.BenchState.{CircuitAndRows}
use Rattle.aig_bench.specs.state.Engine.{EngineState, IsClear}
use Rattle.aig_bench.specs.state.Renewed.{RenewsAll}
use Rattle.aig_bench.proofs.renewals.Renewing.{before_pass, renews_all, renews_more, renews_none, renews_stopped}
use Rattle.aig_bench.proofs.engine.Engine.renew_from.Goals as goal

pub loop-frame-init : goal.loop-frame-init
loop-frame-init g c = record {
  bound = omega arith;
  renews = renews_none c.args.forced.now c.args.first c.args.self.now c.requires;
}

pub force-requires : goal.force-requires
force-requires g c v k =
    subst (λ (p : CircuitAndRows). IsGate p.circuit v) (sym c.loop-frame.invariant.renews.pair) (c.requires.cells.gates v k)

pub pass-more-requires : goal.pass-more-requires
pass-more-requires g c =
    let a = c.args.self.now in
    let sound = subst (λ (x : EngineState). IsSound x.pair.circuit) c.self.view_is c.self.invariant.work.driven_is.circuit.sound in
    let size : length c.self.inside.driven.stimulus.rows ≡ length a.pair.rows = ap (λ (x : EngineState). length x.pair.rows) c.self.view_is in
    let lt : c.loop-frame.frame < length a.pair.rows = omega (arith, c.frames-frame-end.ensures.frames) in
    record {
      frame = rw (c.force.ensures.same, c.loop-frame.invariant.renews.pair) lt;
      before = before_pass c.args.forced.now c.args.first c.loop-frame.frame a c.loop-frame.self c.force.new.self _ sound c.requires
          (omega arith) lt c.loop-frame.invariant.renews c.force.ensures.same c.force.ensures.queued;
    }

pub loop-frame-preserved : goal.loop-frame-preserved
loop-frame-preserved g c =
    let a = c.args.self.now in
    let i = c.loop-frame.invariant in
    let m = c.pass-more.ensures in
    let r = c.total-report.ensures in
    let sound = subst (λ (x : EngineState). IsSound x.pair.circuit) c.self.view_is c.self.invariant.work.driven_is.circuit.sound in
    let size : length c.self.inside.driven.stimulus.rows ≡ length a.pair.rows = ap (λ (x : EngineState). length x.pair.rows) c.self.view_is in
    let lt : c.loop-frame.frame < length a.pair.rows = omega (arith, c.frames-frame-end.ensures.frames) in
    let sum = r.evaluated in
    let more = m.evaluated in
    let bound = i.bound in
    rw c.advance.ensures (record {
      bound = omega arith;
      renews = renews_more c.args.forced.now c.args.first c.loop-frame.frame a c.loop-frame.self c.force.new.self _ sound c.requires
          (omega arith) lt i.renews c.force.ensures.same c.force.ensures.queued c.pass-more.new.self _ _ m.passes r.evaluated r.changed;
    })

pub returns-clause-renews : goal.returns-clause-renews
returns-clause-renews g c =
    let a = c.args.self.now in
    let size : length c.self.inside.driven.stimulus.rows ≡ length a.pair.rows = ap (λ (x : EngineState). length x.pair.rows) c.self.view_is in
    let first = c.requires.cells.first_is in
    subst (λ (x : EngineState). RenewsAll c.args.forced.now c.args.first a (record x { here = c.clear.new.self.marks.items }) c.loop-frame.report)
    (sym c.self-2.view_is)
    (renews_all c.args.forced.now c.args.first c.loop-frame.frame a c.loop-frame.self c.loop-frame.report _ c.loop-frame.invariant.renews
    (omega (arith, c.loop-frame-test.false, c.loop-frame.auto.frame-end, c.frames-frame-end.ensures.frames)) c.clear.ensures.empty)

pub returns-then-is_empty-2-clause-renews : goal.returns-then-is_empty-2-clause-renews
returns-then-is_empty-2-clause-renews g c =
    let a = c.args.self.now in
    let i = c.loop-frame.invariant in
    let s = c.self-in-loop-frame.inside in
    let size : length c.self.inside.driven.stimulus.rows ≡ length a.pair.rows = ap (λ (x : EngineState). length x.pair.rows) c.self.view_is in
    let none = (c.is_empty-then-is_empty.ensures _ c.self-in-loop-frame.invariant.lists.here).0 c.if-is_empty-2.true in
    renews_stopped s.driven s.fanouts s.pending s.order _ _ _ a c.loop-frame.self c.self-in-loop-frame.invariant.work c.self-in-loop-frame.view_is
    c.args.forced.now c.args.first c.loop-frame.frame _
    (eqb-true (length c.args.forced.now) 0 (rw (← c.is_empty.ensures) c.if-is_empty.true)) (omega arith)
    (omega (arith, c.loop-frame-test.true, c.frames-frame-end.ensures.frames)) c.requires i.renews
    (subst (λ (x : EngineState). IsClear x.here) c.self-in-loop-frame.view_is none)
