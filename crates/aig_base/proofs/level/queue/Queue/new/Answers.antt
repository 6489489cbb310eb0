use Rattle.std.proofs.Common.{arith}
use Rattle.aig_base.proofs.rewires.LevelChains.{new_chains, no_entries, zeros}
use Rattle.aig_base.proofs.level.queue.Queue.new.Goals as goal

pub invariant_of-result : goal.invariant_of-result
invariant_of-result c =
    new_chains c.in_ok-vec.field-0.items c.in_ok-vec-2.field-0.items
    (λ l. rw (c.in_ok-vec.ensures.items_if_clones_equal (λ y e. e)) (zeros c.args.capacity l)) (omega (arith, c.in_ok-vec.ensures.len, c.in_ok-vec-2.ensures.len))

pub returns : goal.returns
returns c = record {
  empty = no_entries c.in_ok-vec.field-0.items c.in_ok-vec-2.field-0.items
      (λ l. rw (c.in_ok-vec.ensures.items_if_clones_equal (λ y e. e)) (zeros c.args.capacity l));
  room = omega (arith, c.in_ok-vec-2.ensures.len);
}
