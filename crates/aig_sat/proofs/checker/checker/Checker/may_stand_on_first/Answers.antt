use Rattle.std.proofs.Common.{sym, ◌∙◌}
use Rattle.aig_sat.proofs.checking.FirstLemmas.{may_stand_found}
use Rattle.aig_sat.proofs.checker.checker.Checker.may_stand_on_first.Goals as goal

pub returns-in-Some : goal.returns-in-Some
returns-in-Some c =
    let (_some, _same, _there, (inside, at), _default) = c.in-Some.ensures.item in
    let tried = c.may_stand_on.ensures.settled in
    record {
      may = record {
        same = tried.same;
        narrows = tried.narrows;
        holds = may_stand_found c.may_stand_on.result c.args.self.now.propagator c.may_stand_on.new.self.propagator
            c.args.clause.now c.value.result 0 inside (sym (c.value.ensures ∙ at 0)) tried.narrows
            c.may_stand_on.ensures.true_unknown c.may_stand_on.ensures.false_unknown tried.holds;
      };
    }
