use Rattle.std.proofs.Common.{◌≡◌, ℕ, Bool, true, false, List, refl, sym, subst}
use Rattle.aig_sat.specs.checker.Clause.{meets}
use Rattle.aig_sat.specs.checker.First.{MeetsOther}
use Rattle.aig_sat.proofs.checking.FirstLemmas.{settled_found}
use Rattle.aig_sat.proofs.checker.checker.Checker.settles.Goals as goal

pub returns-clause-settled : goal.returns-clause-settled
returns-clause-settled c =
    record {
      same = refl;
      narrows = c.follows.ensures.implied.narrows;
      holds = settled_found c.follows.result c.args.self.now.propagator c.follows.new.self c.args.clause.now
          c.in-Some.literals.now c.deref.result.now c.args.lie c.args.place c.in-Some.ensures.some
          (subst (λ (xs : List ℕ). (v : ℕ → Bool) → meets v xs ≡ true → meets v c.args.clause.now ≡ false
          → MeetsOther v c.in-Some.literals.now c.args.lie) (sym c.deref.ensures.value) c.in_ok-resolve.ensures)
          c.follows.ensures.implied.narrows c.follows.ensures.implied.implied;
    }
