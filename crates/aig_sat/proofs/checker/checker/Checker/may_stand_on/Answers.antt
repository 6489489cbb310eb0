use Rattle.std.proofs.Common.{ℕ, subst}
use Rattle.aig_sat.specs.checker.First.{AreSettled, Tries}
use Rattle.aig_sat.proofs.checker.checker.Checker.may_stand_on.Goals as goal

pub returns-clause-settled : goal.returns-clause-settled
returns-clause-settled c =
    subst (λ (lie : ℕ). Tries c.args.self.now c.settles_all.new.self c.settles_all.result
    (λ old new. AreSettled old new c.args.clause.now lie)) c.negated.ensures c.settles_all.ensures.settled
