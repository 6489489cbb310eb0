use Rattle.std.proofs.Common.{refl, arith}
use Rattle.aig_bench.specs.state.DrivenCircuit.{pair_of}
use Rattle.aig_bench.proofs.renewals.Engines.{held}
use Rattle.aig_bench.proofs.renewals.Changed.{bench_dropped}
use Rattle.aig_bench.proofs.edits.Edited.{lists_for, work_for, dropped_touched, dropped_changed}
use Rattle.aig_bench.proofs.bench.Bench.drop_frame.Goals as goal

pub invariant_of-engine : goal.invariant_of-engine
invariant_of-engine g c =
    let k = held c.engine.invariant c.engine.view_is c.self.invariant in
    let driven = c.engine.inside.driven in
    let h = k.working in
    let b = bench_dropped driven c.pop.new.self _ _ _ _ h.bench c.pop.ensures c.drop_row.ensures.cells c.drop_row.ensures.gates in
    record {
      work = work_for driven _ c.engine.inside.fanouts c.engine.inside.fanouts _ _ _ _ c.engine.inside.pending.buckets h.work h.empty refl b.driven_is
          b.laid_out h.work.levels h.work.readers refl refl;
      lists = lists_for driven _ c.engine.inside.fanouts c.engine.inside.fanouts c.engine.inside.pending k.lists refl k.lists.readers;
      orders = c.engine.invariant.orders;
    }

pub invariant_of-self-2 : goal.invariant_of-self-2
invariant_of-self-2 g c =
    let k = held c.engine.invariant c.engine.view_is c.self.invariant in
    let driven = c.engine.inside.driven in
    let h = k.working in
    let b = bench_dropped driven c.pop.new.self _ _ _ _ h.bench c.pop.ensures c.drop_row.ensures.cells c.drop_row.ensures.gates in
    record { current = b.current; idle = k.idle }

pub returns-clause-works : goal.returns-clause-works
returns-clause-works g c =
    let k = held c.engine.invariant c.engine.view_is c.self.invariant in
    let p = pair_of c.engine.inside.driven in
    let sound = k.working.work.driven_is.circuit.sound in
    rw (← c.self.view_is, ← c.engine.view_is) (dropped_touched p sound, dropped_changed p sound, omega (arith, c.drop_row.ensures.count))
