use Rattle.std.proofs.Common.{ap, arith, length}
use Rattle.aig_base.proofs.lists.Items.{item_at}
use Rattle.aig_causes.proofs.walker.step.gate_at.Goals as goal

pub returns : goal.returns
returns c =
    item_at _ _ c.args.place c.index-gates-place.result c.gates.ensures
    (omega (arith, c.requires, ap length c.gates.ensures)) c.index-gates-place.is
