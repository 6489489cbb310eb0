use Rattle.std.proofs.Common.{ap, arith, length}
use Rattle.aig_base.proofs.lists.Items.{item_at}
use Rattle.aig_causes.proofs.latches.latch_at.Goals as goal

pub returns : goal.returns
returns c =
    item_at _ _ c.args.position c.index-latches-position.result c.latches.ensures
    (omega (arith, c.requires, ap length c.latches.ensures)) c.index-latches-position.is
