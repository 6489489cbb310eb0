use Rattle.aig_reduce.specs.state.Needed.{ListsFollowing}
use Rattle.aig_reduce.proofs.spread.Spread.follow_all.Given as goal

abbrev pub invariant-loop-reader : goal.invariant-loop-reader
invariant-loop-reader g l = record {
  following : ListsFollowing l.bench.pair l.frame l.initial.self.list.items l.self.list.items;
}
