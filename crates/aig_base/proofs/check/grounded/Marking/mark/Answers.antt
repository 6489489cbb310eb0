use Rattle.aig_base.proofs.checks.Marking.{mark_meets}
use Rattle.aig_base.proofs.check.grounded.Marking.mark.Goals as goal

pub returns : goal.returns
returns c =
    let old = c.args.self.now.walk in
    let new = c.meet.new.self in
    mark_meets c.args.variable old.met.items new.met.items old.pending.items new.pending.items _ c.requires
    c.meet.ensures
