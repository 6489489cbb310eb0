use Rattle.std.proofs.Common.{arith}
use Rattle.aig_base.proofs.checks.Faults.{known_by_count}
use Rattle.aig_base.proofs.check.least_missing.Goals as goal

pub returns-then-len-raw : goal.returns-then-len-raw
returns-then-len-raw c =
    known_by_count c.args.raw.now c.args.table.now c.requires.parts.range c.requires.definitions c.requires.entries
    (omega arith)
