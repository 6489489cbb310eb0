use Rattle.aig_bench.proofs.carries.LatchLists.{list_empty}
use Rattle.aig_bench.proofs.propagate.latch_list.LatchList.is_empty.Goals as goal

pub returns : goal.returns
returns c n h = list_empty n c.args.self.now h
