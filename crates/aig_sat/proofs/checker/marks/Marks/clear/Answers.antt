use Rattle.std.proofs.Common.{ℕ, List, sym, subst}
use Rattle.aig_sat.specs.checker.Knowledge.{IsIn}
use Rattle.aig_sat.proofs.checking.ForgetLemmas.{in_from_has}
use Rattle.aig_sat.proofs.checker.marks.Marks.clear.Goals as goal

pub invariant_of-self : goal.invariant_of-self
invariant_of-self c = record {
  listed = λ l h. absurd (c.forget.ensures.forgotten l h
      (subst (λ (xs : List ℕ). IsIn xs l) (sym c.deref.ensures.value)
      (in_from_has c.args.self.now.literals.items l (c.args.self.now.listed l (c.forget.ensures.known l h)))));
}
