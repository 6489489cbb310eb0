use Rattle.std.proofs.Common.{Contains, false, length, ap, sym, subst, arith}
use Rattle.std.proofs.lemmas.List.{length-map, with_items_is}
use Rattle.aig_bench.specs.state.Buckets.{AreQueues}
use Rattle.aig_bench.specs.state.Waiting.{WaitingVariables, level_of}
use Rattle.aig_bench.proofs.queues.Slots.{links_room, queues_room}
use Rattle.aig_bench.proofs.propagate.waiting.Waiting.link_all.Goals as goal

pub link_all-requires : goal.link_all-requires
link_all-requires c =
    let (levels, h, fit) = c.requires in (
      levels,
      rw c.deref_mut.ensures.value (queues_room levels c.args.head.now c.self.inside.slots.items _ false c.args.occupied.now
          (subst (λ (w : WaitingVariables). AreQueues levels c.args.head.now w c.args.occupied.now) (sym c.self.view_is) h)),
      fit,
    )

pub returns-clause-queues : goal.returns-clause-queues
returns-clause-queues c levels h =
    let before = length-map c.deref_mut.result.now level_of in
    let after = length-map c.link_all.new.slots level_of in
    let kept = ap length c.link_all.ensures.links.levels in
    let same = with_items_is c.self.inside.slots c.link_all.new.slots (omega (arith, c.deref_mut.ensures.len)) in
    rw same
    (queues_room levels _ _ false _ _
    (c.link_all.ensures.queues levels
    (rw c.deref_mut.ensures.value (queues_room levels c.args.head.now c.self.inside.slots.items _ false c.args.occupied.now
    (subst (λ (w : WaitingVariables). AreQueues levels c.args.head.now w c.args.occupied.now) (sym c.self.view_is) h)))))

pub returns-clause-links : goal.returns-clause-links
returns-clause-links c =
    let before = length-map c.deref_mut.result.now level_of in
    let after = length-map c.link_all.new.slots level_of in
    let kept = ap length c.link_all.ensures.links.levels in
    let same = with_items_is c.self.inside.slots c.link_all.new.slots (omega (arith, c.deref_mut.ensures.len)) in
    rw (same, ← c.self.view_is)
    (links_room (Contains c.args.variables.now) _ _ _ _ false _ _ (rw c.deref_mut.ensures.value at c.link_all.ensures.links))
