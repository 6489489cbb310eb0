use Rattle.aig_unroll.proofs.NumberLemmas.{numbers_renumber}
use Rattle.aig_unroll.proofs.unrolling.numbers.Numbers.of.Goals as goal

pub returns : goal.returns
returns c = numbers_renumber c.args.circuit.now c.args.order.now
