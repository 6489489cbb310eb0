use Rattle.std.proofs.Common.{refl}
use Rattle.aig_base.proofs.rewires.QueueLemmas.{not_visited, queued_new}
use Rattle.aig_base.proofs.rewires.VisitLemmas.{is_off}
use Rattle.aig_base.proofs.level.worklist.Worklist.push.Goals as goal

pub returns-then-not-index : goal.returns-then-not-index
returns-then-not-index c =
    let s = c.args.self.now.visits in
    let off = is_off s.met.items c.args.variable c.index.result.now c.index.ensures c.if-not-index.true in
    queued_new c.args.levels.now c.args.variable _ s c.visit.new.self c.args.self.now.queue c.push.new.self off
    c.visit.ensures.among c.visit.ensures.visited (c.visit.ensures.fewer (not_visited s c.args.variable off)) refl
    c.push.ensures.entries c.push.ensures.capacity

pub push-requires-clause-alone : goal.push-requires-clause-alone
push-requires-clause-alone c =
    let s = c.args.self.now.visits in
    let off = is_off s.met.items c.args.variable c.index.result.now c.index.ensures c.if-not-index.true in
    λ k. not_visited s c.args.variable off (c.requires.room.met c.args.variable k)
