use Rattle.aig_cnf.proofs.PartLists.{picked_gone, picked_kept}
use Rattle.aig_cnf.proofs.part.push_marked.Goals as goal

pub returns-in_ok-push : goal.returns-in_ok-push
returns-in_ok-push g c =
    picked_kept c.args.found.now.items c.args.item c.args.is_marked c.if-is_marked.true c.in_ok-push.ensures.items

pub returns-else-is_marked : goal.returns-else-is_marked
returns-else-is_marked g c = picked_gone c.args.item c.args.is_marked c.if-is_marked.false
