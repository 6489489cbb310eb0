use Rattle.std.proofs.Common.{◌+◌, arith}
use Rattle.aig_bench.proofs.queues.Chained.{chained_none}
use Rattle.aig_bench.proofs.queues.Lowest.{none_occupied}
use Rattle.aig_bench.proofs.propagate.buckets.Buckets.of.Goals as goal

pub returns-clause-buckets : goal.returns-clause-buckets
returns-clause-buckets c =
    let size = c.requires.size in
    record {
      chained = chained_none (c.max_var.result + 1) _ _ _ c.in_ok-marks.ensures.none
          (c.in_ok-head.ensures.items_if_clones_equal (λ y e. e))
          (omega (arith, c.in_ok-marks.ensures.next, size, c.max_var.ensures.value))
          (omega (arith, c.in_ok-marks.ensures.marks, size, c.max_var.ensures.value))
          c.args.levels.now (omega (arith, size, c.max_var.ensures.value));
      levels_are = c.in_ok-marks.ensures.levels;
      sizes = omega (arith, c.in_ok-head.ensures.len, c.in_ok-marks.ensures.next, size, c.max_var.ensures.value);
      few = omega (arith, c.in_ok-head.ensures.len, c.max_var.ensures.value, c.facts.ensures.formed.counts.max_var);
      room = omega (arith, c.in_ok-head.ensures.len, c.in_ok-occupied.ensures.room);
      occupied = none_occupied _ _ (c.max_var.result + 1) (c.in_ok-head.ensures.items_if_clones_equal (λ y e. e))
          c.in_ok-occupied.ensures.empty;
    }
