use Rattle.std.proofs.Common.{arith}
use Rattle.aig_bench.proofs.renewals.Engines.{held}
use Rattle.aig_bench.proofs.growing.Outputs.{ready_set, set_touched, set_changed}
use Rattle.aig_bench.proofs.new_frames.GateLists.{orders_output}
use Rattle.aig_bench.proofs.bench.Bench.set_output.Goals as goal

pub invariant_of-engine : goal.invariant_of-engine
invariant_of-engine g c =
    let k = held c.engine.invariant c.engine.view_is c.self.invariant in
    let r = ready_set c.engine.inside.driven c.args.position c.args.literal _ _ _ _ _ c.replace_output.ensures
    c.in_ok-check_output.ensures.defined k in
    record {
      work = r.working.work;
      lists = r.lists;
      orders = orders_output c.engine.inside.driven.circuit _ c.args.position c.args.literal c.engine.inside.order
          c.replace_output.ensures c.engine.invariant.orders;
    }

pub invariant_of-self-2 : goal.invariant_of-self-2
invariant_of-self-2 g c =
    let k = held c.engine.invariant c.engine.view_is c.self.invariant in
    let r = ready_set c.engine.inside.driven c.args.position c.args.literal _ _ _ _ _ c.replace_output.ensures
    c.in_ok-check_output.ensures.defined k in
    record { current = r.working.bench.current; idle = r.idle }

pub returns-clause-works : goal.returns-clause-works
returns-clause-works g c =
    let k = held c.engine.invariant c.engine.view_is c.self.invariant in
    let driven = c.engine.inside.driven in
    let p = k.working.work.driven_is in
    let d = c.in_ok-check_output.ensures.defined in
    rw (← c.self.view_is, ← c.engine.view_is) (
      set_touched driven c.args.position c.args.literal p d,
      set_changed driven c.args.position c.args.literal p d,
      omega arith,
    )
