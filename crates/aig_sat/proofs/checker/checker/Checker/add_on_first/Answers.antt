use Rattle.aig_sat.proofs.checking.FirstLemmas.{narrowed_holds, narrowed_some, stands_some}
use Rattle.aig_sat.proofs.checker.checker.Checker.add_on_first.Goals as goal

pub returns-then-self-clause-keeps : goal.returns-then-self-clause-keeps
returns-then-self-clause-keeps c = λ v h. (v, h)

pub returns-then-self-clause-stands : goal.returns-then-self-clause-stands
returns-then-self-clause-stands c = λ v h m. h

pub returns-in_err-may_stand-clause-keeps : goal.returns-in_err-may_stand-clause-keeps
returns-in_err-may_stand-clause-keeps c = narrowed_some c.args.self.now c.may_stand.new.self c.may_stand.ensures.may.same c.may_stand.ensures.may.narrows

pub returns-in_err-may_stand-clause-stands : goal.returns-in_err-may_stand-clause-stands
returns-in_err-may_stand-clause-stands c = λ v h m. narrowed_holds c.args.self.now c.may_stand.new.self c.may_stand.ensures.may.same c.may_stand.ensures.may.narrows v h

pub returns-in_err-add_clause-clause-keeps : goal.returns-in_err-add_clause-clause-keeps
returns-in_err-add_clause-clause-keeps c =
    stands_some c.args.clause.now c.args.self.now c.may_stand.new.self c.add_clause.new.self c.may_stand.ensures.may.same
    (c.in_ok-may_stand.ensures.may.holds c.if-branch.true) c.add_clause.ensures.meeting

pub returns-in_err-add_clause-clause-stands : goal.returns-in_err-add_clause-clause-stands
returns-in_err-add_clause-clause-stands c = λ v h m. c.add_clause.ensures.meeting v (narrowed_holds c.args.self.now c.may_stand.new.self c.may_stand.ensures.may.same c.may_stand.ensures.may.narrows v h) m

pub returns-then-branch-clause-keeps : goal.returns-then-branch-clause-keeps
returns-then-branch-clause-keeps c =
    stands_some c.args.clause.now c.args.self.now c.may_stand.new.self c.add_clause.new.self c.may_stand.ensures.may.same
    (c.in_ok-may_stand.ensures.may.holds c.if-branch.true) c.add_clause.ensures.meeting

pub returns-then-branch-clause-stands : goal.returns-then-branch-clause-stands
returns-then-branch-clause-stands c = λ v h m. c.add_clause.ensures.meeting v (narrowed_holds c.args.self.now c.may_stand.new.self c.may_stand.ensures.may.same c.may_stand.ensures.may.narrows v h) m

pub returns-clause-keeps : goal.returns-clause-keeps
returns-clause-keeps c = narrowed_some c.args.self.now c.may_stand.new.self c.may_stand.ensures.may.same c.may_stand.ensures.may.narrows

pub returns-clause-stands : goal.returns-clause-stands
returns-clause-stands c = λ v h m. narrowed_holds c.args.self.now c.may_stand.new.self c.may_stand.ensures.may.same c.may_stand.ensures.may.narrows v h

pub returns-clause-refused : goal.returns-clause-refused
returns-clause-refused c = λ _. narrowed_holds c.args.self.now c.may_stand.new.self c.may_stand.ensures.may.same c.may_stand.ensures.may.narrows
