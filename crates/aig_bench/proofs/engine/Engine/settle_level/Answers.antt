use Rattle.std.proofs.Common.{◌<◌, ℕ, List, subst, arith}
use Rattle.aig_bench.specs.state.Buckets.{IsFirst}
use Rattle.aig_bench.specs.state.Engine.{EngineState}
use Rattle.aig_bench.specs.state.Sweep.{queued_count}
use Rattle.aig_bench.proofs.renewals.Engines.{levels_none, levels_past, levels_then}
use Rattle.aig_bench.proofs.queues.Queued.{queued_count_bound}
use Rattle.aig_bench.proofs.engine.Engine.settle_level.Goals as goal

pub first-first-requires : goal.first-first-requires
first-first-requires g c =
    let w = c.self.invariant.work in
    let size = w.levels.size in
    let heads = w.size in
    let inside = rw (← c.self.view_is) at c.requires.level in
    omega arith

pub loop-first-init : goal.loop-first-init
loop-first-init g c =
    let s = c.args.self.now in
    let queued = queued_count_bound s.levels s.queued c.args.level in
    let few = c.requires.few in
    record {
      frame = c.requires.frame;
      level = c.requires.level;
      bound = omega arith;
      first = subst (λ (x : EngineState). IsFirst x.levels x.heads x.queued c.args.level c.first-first.result) c.self.view_is
          (c.first-first.ensures c.self.inside.fanouts.levels c.self.invariant.work.buckets);
      settles = levels_none c.args.frame c.args.level s;
    }

pub loop-first-smaller : goal.loop-first-smaller
loop-first-smaller g c =
    subst (λ (xs : List ℕ). queued_count xs c.settle_first-settled.new.self.queued c.args.level
    < queued_count xs c.loop-first.self.queued c.args.level)
    c.loop-first.invariant.settles.row.levels c.settle_first-settled.ensures.fewer

pub loop-first-preserved : goal.loop-first-preserved
loop-first-preserved g c =
    let i = c.loop-first.invariant in
    let s = c.settle_first-settled.ensures in
    let fewer = subst (λ (xs : List ℕ). queued_count xs c.settle_first-settled.new.self.queued c.args.level
    < queued_count xs c.loop-first.self.queued c.args.level) i.settles.row.levels s.fewer in
    let bound = i.bound in
    let one = c.count.ensures.evaluated in
    record {
      frame = rw s.settles.row.pair i.frame;
      level = rw s.settles.row.levels i.level;
      bound = omega arith;
      first = s.next;
      settles = levels_then c.args.frame c.args.self.now c.loop-first.self c.settle_first-settled.new.self c.args.level c.args.level
          c.args.level _ _ _ i.settles s.settles one c.count.ensures.changed;
    }

pub returns-clause-settles : goal.returns-clause-settles
returns-clause-settles g c =
    let i = c.loop-first.invariant in
    levels_past c.args.frame c.args.level c.args.self.now c.loop-first.self _ c.requires.levels i.settles
    (i.first.none (let stop = c.loop-first-test.false in omega arith))
