use Rattle.aig_why.proofs.RunLemmas.{cells_with}
use Rattle.aig_why.proofs.command.explain_run.Goals as goal

pub returns-in_default-clause-fault : goal.returns-in_default-clause-fault
returns-in_default-clause-fault c = λ raw of property name asked.
    (cells_with raw c.args.run.now.bench.pair c.args.naming of c.requires.cells, rw c.in_default.is at asked)
