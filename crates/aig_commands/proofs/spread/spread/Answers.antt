use Rattle.std.proofs.Common.{arith}
use Rattle.aig_base.specs.Part.{spread}
use Rattle.aig_commands.proofs.Spreads.{spread_done}
use Rattle.aig_commands.proofs.spread.spread.Goals as goal

pub returns : goal.returns
returns c =
    spread_done c.args.reads.now c.args.others.now c.loop-place.place c.loop-place.all.items c.loop-place.rest.now
    (spread c.args.reads.now c.args.others.now c.args.values.now) (omega (arith, c.requires, c.loop-place-test.false))
    c.loop-place.invariant
