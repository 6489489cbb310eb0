use Rattle.std.proofs.Common.{None}
use Rattle.aig_command.proofs.given.run_by_resets.Goals as goal

pub returns-clause-run : goal.returns-clause-run
returns-clause-run c = λ i. record { property = None; start = c.in_ok-start.ensures i; rows = c.args.rows.rows }
