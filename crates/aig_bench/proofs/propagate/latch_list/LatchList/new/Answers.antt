use Rattle.std.proofs.Common.{refl, ◌+◌, []}
use Rattle.aig_bench.proofs.queues.Chained.{none_marked}
use Rattle.aig_bench.proofs.carries.LatchLists.{list_new}
use Rattle.aig_bench.proofs.propagate.latch_list.LatchList.new.Goals as goal

pub returns-clause-list : goal.returns-clause-list
returns-clause-list c =
    list_new c.args.latches _ refl (c.in_ok-next.ensures.items_if_clones_equal (λ y e. e))
    (c.in_ok-marks.ensures.items_if_clones_equal (λ y e. e))

pub returns-clause-empty : goal.returns-clause-empty
returns-clause-empty c = none_marked (c.args.latches + 1) [] [] _ (c.in_ok-marks.ensures.items_if_clones_equal (λ y e. e))
