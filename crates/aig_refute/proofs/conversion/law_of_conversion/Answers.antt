use Rattle.aig_refute.proofs.ConvertedDumps.{same_dumps}
use Rattle.aig_refute.proofs.ConvertedRuns.{unreachable, unreachable_within}
use Rattle.aig_refute.proofs.ConvertedTraces.{same_traces}
use Rattle.aig_refute.proofs.ConvertedVerdicts.{same_verdicts}
use Rattle.aig_refute.proofs.ConvertedWitnesses.{same_witnesses}
use Rattle.aig_refute.proofs.conversion.law_of_conversion.Goals as goal

pub returns-clause-traces : goal.returns-clause-traces
returns-clause-traces c = λ raw order start rows circuit canonical fits.
    same_traces raw circuit order canonical start rows fits

pub returns-clause-dumps : goal.returns-clause-dumps
returns-clause-dumps c = λ raw order start rows circuit canonical fits.
    same_dumps raw circuit order canonical start rows fits

pub returns-clause-witnesses : goal.returns-clause-witnesses
returns-clause-witnesses c = same_witnesses

pub returns-clause-verdicts : goal.returns-clause-verdicts
returns-clause-verdicts c = λ raw order w circuit canonical fits some.
    same_verdicts raw circuit order canonical w fits some

pub returns-clause-within : goal.returns-clause-within
returns-clause-within c = λ raw order k p circuit canonical none. unreachable_within raw circuit order canonical k p none

pub returns-clause-unreachable : goal.returns-clause-unreachable
returns-clause-unreachable c = λ raw order p circuit canonical none. unreachable raw circuit order canonical p none
