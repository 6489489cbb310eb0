use Rattle.aig_sat.proofs.checking.FirstLemmas.{may_stand_seen}
use Rattle.aig_sat.proofs.checker.checker.Checker.may_stand.Goals as goal

pub returns : goal.returns
returns c =
    let tried = c.may_stand_on_first-may.ensures.may in
    record {
      may = record {
        same = tried.same;
        narrows = record { same = tried.narrows.same; fewer = tried.narrows.fewer };
        holds = may_stand_seen c.may_stand_on_first-may.result c.args.self.now.propagator _
            c.may_stand_on_first-may.new.self.propagator _ c.args.clause.now
            (λ v a. record { met = a.met; known = a.known }) (λ v a. record { met = a.met; known = a.known }) tried.holds;
      };
    }
