use Rattle.std.proofs.Common.{refl}
use Rattle.aig_sat.proofs.checker.checker.Checker.new.Goals as goal

pub returns-clause-holds : goal.returns-clause-holds
returns-clause-holds c = λ v. record { open_still = refl; agrees = c.in_ok-new.ensures.agrees v }
