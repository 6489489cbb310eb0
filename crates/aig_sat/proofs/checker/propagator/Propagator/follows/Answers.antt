use Rattle.std.proofs.Common.{refl}
use Rattle.std.proofs.lemmas.Result.{IfOk-weaker}
use Rattle.aig_sat.proofs.checking.PropagationLemmas.{undone}
use Rattle.aig_sat.proofs.checker.propagator.Propagator.follows.Goals as goal

pub returns : goal.returns
returns c =
    let tried = c.try_clause-follows.ensures.implied in
    record {
      implied = record {
        narrows = undone c.args.clause.now c.args.self.now c.try_clause-follows.new.self _
            (record {
              same = tried.assumes.same;
              known = λ v a. tried.assumes.known v (record { met = a.met; known = a.known });
              found = tried.assumes.found;
            })
            refl c.undo.ensures.forgotten;
        implied = IfOk-weaker c.try_clause-follows.result _ _
            (λ yes implied is v a. implied is v (record { met = a.met; known = a.known })) tried.implied;
      };
    }
