use Rattle.std.proofs.Common.{◌≡◌, ℕ, true, List, refl, sym, subst}
use Rattle.aig_sat.specs.checker.Clause.{meets}
use Rattle.aig_sat.proofs.checking.HoldingLemmas.{stored}
use Rattle.aig_sat.proofs.checker.checker.Checker.store.Goals as goal

pub invariant_of-self : goal.invariant_of-self
invariant_of-self c = (c.args.self.now.marks.listed, tt)

pub returns-in_err-place : goal.returns-in_err-place
returns-in_err-place c =
    stored c.args.self.now.marks.literals.items c.args.self.now _ refl refl
    (λ v m met. c.add.ensures.met v (subst (λ (xs : List ℕ). meets v xs ≡ true) (sym c.deref.ensures.value) m) met)

pub returns-in_err-add : goal.returns-in_err-add
returns-in_err-add c =
    stored c.args.self.now.marks.literals.items c.args.self.now _ refl refl
    (λ v m met. c.add-2.ensures v (c.add.ensures.met v (subst (λ (xs : List ℕ). meets v xs ≡ true) (sym c.deref.ensures.value) m) met))

pub returns : goal.returns
returns c =
    stored c.args.self.now.marks.literals.items c.args.self.now _ refl refl
    (λ v m met. c.add-2.ensures v (c.add.ensures.met v (subst (λ (xs : List ℕ). meets v xs ≡ true) (sym c.deref.ensures.value) m) met))
