use Rattle.aig_commands.proofs.Spreads.{spread_read, spread_rest, spread_unread}
use Rattle.aig_commands.proofs.spread.next_value.Goals as goal

pub returns-then-read : goal.returns-then-read
returns-then-read c =
    spread_read c.args.other c.in-Some.first.now c.in-Some.rest.now c.args.values.now c.in-Some.ensures.cases.0 c.args.read c.if-read.true

pub returns-else-read : goal.returns-else-read
returns-else-read c = spread_unread c.args.other c.args.values.now c.args.read c.if-read.false

pub returns-in-None : goal.returns-in-None
returns-in-None c = spread_rest c.args.read c.args.other c.args.values.now c.in-None.ensures.cases
