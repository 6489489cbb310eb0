use Rattle.aig_sat.proofs.checking.PropagationLemmas.{pulled}
use Rattle.aig_sat.proofs.checker.propagator.Propagator.visit_all.Goals as goal

pub returns : goal.returns
returns c =
    let found = c.visit_list-conflict.ensures.conflict in
    record {
      conflict = record {
        propagates = record {
          same = found.propagates.same;
          known = λ v a. found.propagates.known v (record { met = a.met; known = a.known });
          found = found.propagates.found;
        };
        contradicts = pulled _ c.args.self.now _ (λ v a. record { met = a.met; known = a.known }) found.contradicts;
      };
    }
