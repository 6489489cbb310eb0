use Rattle.std.proofs.Common.{◌∙◌, ◌+◌, ◌≡◌, length, refl, ap, arith}
use Rattle.aig_bench.specs.state.Engine.{EngineState}
use Rattle.aig_bench.proofs.renewals.Engines.{levels_none, levels_then, levels_clear, settles}
use Rattle.aig_bench.proofs.passes.Puts.{few_variables}
use Rattle.aig_bench.proofs.engine.Engine.settle.Goals as goal

pub loop-level-init : goal.loop-level-init
loop-level-init g c = record {
  frame = c.requires.frame;
  from = omega arith;
  bound = omega arith;
  settles = levels_none c.args.frame 0 c.args.self.now;
}

pub settle_level-more-requires-clause-level : goal.settle_level-more-requires-clause-level
settle_level-more-requires-clause-level g c =
    let w = c.self.invariant.work in
    let size = w.levels.size in
    let heads = w.size in
    let inside = c.in-Some.ensures.inside in
    rw (← c.self.view_is) (omega arith)

pub settle_level-more-requires-clause-levels : goal.settle_level-more-requires-clause-levels
settle_level-more-requires-clause-levels g c = rw (← c.self.view_is) c.self.invariant.work.levels

pub settle_level-more-requires-clause-few : goal.settle_level-more-requires-clause-few
settle_level-more-requires-clause-few g c =
    let w = c.self.invariant.work in
    let size = w.levels.size in
    let few = few_variables c.self.inside.driven w.driven_is in
    rw (← c.self.view_is) (omega arith)

pub loop-level-preserved : goal.loop-level-preserved
loop-level-preserved g c =
    let i = c.loop-level.invariant in
    let s = c.settle_level-more.ensures in
    let e = c.self.inside in
    let w = c.self.invariant.work in
    let bound = i.bound in
    let more = s.evaluated in
    let inside = c.in-Some.ensures.inside in
    let size = w.levels.size in
    let heads = w.size in
    let same : length e.fanouts.levels ≡ length c.args.self.now.levels =
    ap (λ (x : EngineState). length x.levels) c.self.view_is ∙ ap length i.settles.row.levels in
    let (le, clear) = c.in-Some.ensures.least e.fanouts.levels w.buckets in
    record {
      frame = rw s.settles.row.pair i.frame;
      from = omega arith;
      bound = omega arith;
      settles = levels_then c.args.frame c.args.self.now c.loop-level.self c.settle_level-more.new.self 0 c.in-Some.level (c.in-Some.level + 1)
          _ _ _ (levels_clear e.driven e.fanouts e.pending e.order _ _ _ c.args.frame c.loop-level.from _ _ _ w c.self.view_is i.settles c.in-Some.level le clear)
          s.settles refl refl;
    }

pub returns-clause-settles : goal.returns-clause-settles
returns-clause-settles g c =
    let i = c.loop-level.invariant in
    let e = c.self.inside in
    let w = c.self.invariant.work in
    let heads = w.size in
    let size = w.levels.size in
    let from = i.from in
    let same : length e.fanouts.levels ≡ length c.args.self.now.levels =
    ap (λ (x : EngineState). length x.levels) c.self.view_is ∙ ap length i.settles.row.levels in
    settles e.driven e.fanouts e.pending e.order _ _ _ c.args.frame c.loop-level.from _ _ _ w c.self.view_is i.settles (length e.pending.buckets.head.items)
    (omega arith) (omega arith) (c.in_default.ensures.least e.fanouts.levels w.buckets)
