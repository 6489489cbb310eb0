use Rattle.aig_format.proofs.Deltas.{delta_small, delta_large, delta_short, delta_ends}
use Rattle.aig_format.proofs.format_laws.law_of_deltas.Goals as goal

pub returns-clause-small : goal.returns-clause-small
returns-clause-small c = delta_small

pub returns-clause-large : goal.returns-clause-large
returns-clause-large c = delta_large

pub returns-clause-shortest : goal.returns-clause-shortest
returns-clause-shortest c = delta_short

pub returns-clause-ends : goal.returns-clause-ends
returns-clause-ends c = delta_ends
