use Rattle.std.proofs.Common.{refl, arith}
use Rattle.aig_sat.proofs.checking.NumberLemmas.{numbered_same}
use Rattle.aig_sat.proofs.checking.PropagationLemmas.{agrees_narrowed}
use Rattle.aig_sat.proofs.checker.checker.Checker.add_variable.Goals as goal

pub returns-clause-adds : goal.returns-clause-adds
returns-clause-adds c =
    let added = c.add_variable-2.ensures in
    record {
      holding = λ v h. record {
        open_still = h.open_still;
        agrees = agrees_narrowed c.args.self.now.propagator c.add_variable-2.new.self added.narrows v h.agrees;
      };
      numbered = record {
        hinted = refl;
        variables = omega (arith, added.more);
        refuted = λ conflict. conflict;
        others = λ n it ne h. numbered_same _ _ _ _ n it added.words added.ids h;
      };
      next = refl;
    }
