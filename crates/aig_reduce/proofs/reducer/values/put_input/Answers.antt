use Rattle.aig_reduce.proofs.Edits.{bit_done}
use Rattle.aig_reduce.proofs.reducer.values.put_input.Goals as goal

pub returns : goal.returns
returns g c =
    bit_done c.args.bench.now.pair c.args.frame c.args.position c.args.value _ _ c.requires.frame c.requires.position
    c.set_bit-report.ensures.edits
