use Rattle.std.proofs.Common.{sym, subst}
use Rattle.aig_sat.specs.checker.Knowledge.{MakesTrue}
use Rattle.aig_sat.proofs.checking.PropagationLemmas.{agrees_then, pulled_if, taken_true}
use Rattle.aig_sat.proofs.checker.propagator.Propagator.take_unit.Goals as goal

pub returns-clause-agrees : goal.returns-clause-agrees
returns-clause-agrees c = λ v a holds.
    let last = agrees_then _ _ c.propagate-conflict.ensures.conflict.propagates v
    (record { met = a.met; known = taken_true v c.args.literal c.args.self.now.known c.take.new.self c.take.ensures.takes a.known holds }) in
    record { met = last.met; known = subst (MakesTrue v) (sym c.settle.ensures) last.known }

pub returns-clause-conflict : goal.returns-clause-conflict
returns-clause-conflict c =
    pulled_if _ c.args.literal c.args.self.now _
    (λ v a holds. record { met = a.met; known = taken_true v c.args.literal c.args.self.now.known c.take.new.self c.take.ensures.takes a.known holds })
    c.propagate-conflict.ensures.conflict.contradicts
