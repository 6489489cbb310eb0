use Rattle.aig_reduce.proofs.Edits.{reset_done}
use Rattle.aig_reduce.proofs.reducer.values.put_reset.Goals as goal

pub returns-clause-bench : goal.returns-clause-bench
returns-clause-bench g c =
    reset_done c.args.bench.now.pair c.args.latch c.args.value _ _ c.requires c.set_reset-report.ensures.edits
