use Rattle.std.proofs.Common.{subst}
use Rattle.aig_signals.specs.declared.property.lookup.Found.{Found}
use Rattle.aig_signals.specs.state.Wanted.{IsFound}
use Rattle.aig_signals.proofs.property.wanted.position_found.Goals as goal

pub returns-in-Nothing-clause-fault : goal.returns-in-Nothing-clause-fault
returns-in-Nothing-clause-fault c = λ raw section name h. subst (λ (f : Found). IsFound raw section name f) c.in-Nothing.is h

pub returns-in-One-clause-one : goal.returns-in-One-clause-one
returns-in-One-clause-one c = λ raw section name h. subst (λ (f : Found). IsFound raw section name f) c.in-One.is h

pub returns-in-Two-clause-fault : goal.returns-in-Two-clause-fault
returns-in-Two-clause-fault c = λ raw section name h. subst (λ (f : Found). IsFound raw section name f) c.in-Two.is h
