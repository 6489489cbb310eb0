use Rattle.std.proofs.Common.{arith}
use Rattle.aig_bench.proofs.queues.Lowest.{clear_to}
use Rattle.aig_bench.proofs.propagate.buckets.Buckets.lowest.Goals as goal

pub returns-then-level-len-clause-least : goal.returns-then-level-len-clause-least
returns-then-level-len-clause-least c levels h =
    let (le, here, none) = c.in_ok-level.ensures in
    (le, clear_to levels c.args.self.now c.args.from h c.in_ok-level.level (omega (arith, c.if-level-len.true, c.len.ensures)) none)

pub returns-else-level-len-clause-least : goal.returns-else-level-len-clause-least
returns-else-level-len-clause-least c levels h =
    let (le, here, none) = c.in_ok-level.ensures in
    let beyond = c.if-level-len.false in
    clear_to levels c.args.self.now c.args.from h _ (omega arith) (λ n at lt. none n at (omega (arith, c.len.ensures)))

pub returns-in_err-level-clause-least : goal.returns-in_err-level-clause-least
returns-in_err-level-clause-least c levels h =
    rw c.from_residual.ensures
    (clear_to levels c.args.self.now c.args.from h _ (omega arith) (λ n le lt. c.in_err-level.ensures n le))
