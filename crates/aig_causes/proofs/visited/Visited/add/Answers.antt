use Rattle.aig_causes.proofs.Walks.{earlier_more}
use Rattle.aig_causes.proofs.visited.Visited.add.Goals as goal

pub returns-clause-earlier : goal.returns-clause-earlier
returns-clause-earlier c = λ h. earlier_more c.args.self.now.number c.args.variable c.args.self.now.marks.items h
