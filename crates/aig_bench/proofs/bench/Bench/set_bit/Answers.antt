use Rattle.std.proofs.Common.{refl, rules, arith}
use Rattle.aig_bench.proofs.edits.Edited.{lists_for, bit_latches, bit_next, bit_before, bit_consistent, bit_here}
use Rattle.aig_bench.proofs.edits.Edited.{bit_stale, bit_below, bit_touched, bit_changed}
use Rattle.aig_bench.proofs.renewals.Engines.{held, settled_renewed}
use Rattle.aig_bench.proofs.bench.Bench.set_bit.Goals as goal

pub invariant_of-engine : goal.invariant_of-engine
invariant_of-engine g c =
    let k = held c.engine.invariant c.engine.view_is c.self.invariant in
    record {
      work = search rules;
      lists = lists_for c.engine.inside.driven _ c.engine.inside.fanouts c.engine.inside.fanouts c.engine.inside.pending k.lists refl
          k.lists.readers;
      orders = c.engine.invariant.orders;
    }

pub renew_input-requires-clause-stale : goal.renew_input-requires-clause-stale
renew_input-requires-clause-stale g c =
    let k = held c.engine.invariant c.engine.view_is c.self.invariant in
    record {
      idle = k.idle;
      before = bit_before c.engine.inside.driven c.engine.inside.fanouts c.engine.inside.pending.buckets _ _ c.set.new.self c.args.frame c.args.position
          c.args.value k.working c.set.ensures (omega (arith, c.if-frame-frames.false, c.frames.ensures.frames));
      consistent = bit_consistent c.engine.inside.driven c.engine.inside.fanouts c.engine.inside.pending.buckets _ _ c.set.new.self c.args.frame c.args.position
          c.args.value k.working c.set.ensures (omega (arith, c.if-frame-frames.false, c.frames.ensures.frames));
      here = bit_here c.engine.inside.driven c.engine.inside.fanouts c.engine.inside.pending.buckets _ _ c.set.new.self c.args.frame c.args.position
          c.args.value k.working c.set.ensures (omega (arith, c.if-frame-frames.false, c.frames.ensures.frames));
      stale = bit_stale c.engine.inside.driven c.engine.inside.fanouts c.engine.inside.pending.buckets _ _ c.set.new.self c.args.frame c.args.position
          c.args.value k.working c.set.ensures (omega (arith, c.if-frame-frames.false, c.frames.ensures.frames));
      latches = bit_latches c.engine.inside.driven c.engine.inside.fanouts c.engine.inside.pending.buckets _ _ c.set.new.self c.args.frame c.args.position
          c.args.value k.working c.set.ensures (omega (arith, c.if-frame-frames.false, c.frames.ensures.frames));
      next = bit_next c.engine.inside.driven c.engine.inside.fanouts c.engine.inside.pending.buckets _ _ c.set.new.self c.args.frame c.args.position
          c.args.value k.working c.set.ensures (omega (arith, c.if-frame-frames.false, c.frames.ensures.frames));
    }

pub invariant_of-self-2 : goal.invariant_of-self-2
invariant_of-self-2 g c =
    let k = held c.engine.invariant c.engine.view_is c.self.invariant in
    settled_renewed _ _ _ c.renew_input.new.self _
    (bit_below c.engine.inside.driven c.engine.inside.fanouts c.engine.inside.pending.buckets _ _ c.set.new.self c.args.frame c.args.position
    c.args.value k.working c.set.ensures (omega (arith, c.if-frame-frames.false, c.frames.ensures.frames))) c.renew_input.ensures

pub returns-clause-works : goal.returns-clause-works
returns-clause-works g c =
    let k = held c.engine.invariant c.engine.view_is c.self.invariant in
    rw (← c.self.view_is, ← c.engine.view_is) (
      bit_touched c.engine.inside.driven c.engine.inside.fanouts c.engine.inside.pending.buckets _ _ c.set.new.self c.args.frame c.args.position
          c.args.value k.working c.set.ensures (omega (arith, c.if-frame-frames.false, c.frames.ensures.frames)) _ _ _ c.renew_input.ensures.renewed,
      bit_changed c.engine.inside.driven c.engine.inside.fanouts c.engine.inside.pending.buckets _ _ c.set.new.self c.args.frame c.args.position
          c.args.value k.working c.set.ensures (omega (arith, c.if-frame-frames.false, c.frames.ensures.frames)) _ _ _ c.renew_input.ensures.renewed,
      c.renew_input.ensures.count,
    )
