use Rattle.std.proofs.Common.{refl, rules}
use Rattle.aig_sat.proofs.checking.ListingLemmas.{found_narrows, settled_since}
use Rattle.aig_sat.proofs.checking.PropagationLemmas.{narrows_then}
use Rattle.aig_sat.proofs.checker.checker.Checker.settles_all.Goals as goal

pub returns-in_err-find : goal.returns-in_err-find
returns-in_err-find c = record {
  settled = record {
    same = refl;
    narrows = found_narrows _ _ c.find.ensures.same (λ l h. h);
    holds = search rules;
  };
}

pub returns : goal.returns
returns c =
    let narrowed = found_narrows _ _ c.find.ensures.same (λ l h. h) in
    let tried = c.settles_found.ensures.settled in
    record {
      settled = record {
        same = tried.same;
        narrows = narrows_then _ _ _ narrowed tried.narrows;
        holds = settled_since c.settles_found.result _ _ c.settles_found.new.self.propagator c.args.clause.now c.args.lie
            narrowed tried.holds;
      };
    }
