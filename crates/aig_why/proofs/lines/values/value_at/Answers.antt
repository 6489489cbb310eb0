use Rattle.aig_bench.proofs.edits.Refusals.{value_allowed}
use Rattle.aig_why.proofs.lines.values.value_at.Goals as goal

pub returns-in-Err : goal.returns-in-Err
returns-in-Err g c =
    absurd (value_allowed c.args.bench.now.pair c.args.frame c.args.literal c.requires.range c.requires.defined c.requires.frame
    c.in-Err.field-0 c.in-Err.ensures.0)
