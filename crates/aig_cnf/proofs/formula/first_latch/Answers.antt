use Rattle.std.proofs.Common.{ℕ, List, length, ap, arith}
use Rattle.aig_cnf.proofs.formula.first_latch.Goals as goal

pub overflow_cast-result : goal.overflow_cast-result
overflow_cast-result c =
    omega (arith, ap (λ (ls : List ℕ). length ls) c.inputs.ensures, c.facts.ensures.formed.counts.inputs)
