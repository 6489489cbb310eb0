use Rattle.std.proofs.Common.{◌≡◌, inl, inr, ℕ, true, List, length, refl, sym, ap, subst, arith}
use Rattle.aig_sat.specs.checker.Clause.{meets}
use Rattle.aig_sat.specs.checker.Words.{IsAdded}
use Rattle.aig_sat.proofs.checking.HoldingLemmas.{all_false, stored}
use Rattle.aig_sat.proofs.checking.NumberLemmas.{add_keeps, add_numbers, err_on_ok, on_ok_then, same_itself}
use Rattle.aig_sat.proofs.checker.checker.Checker.store_named.Goals as goal

pub invariant_of-self : goal.invariant_of-self
invariant_of-self c = (c.args.self.now.marks.listed, tt)

pub returns-in_default-clause-meeting : goal.returns-in_default-clause-meeting
returns-in_default-clause-meeting c = λ v h m.
    absurd (all_false v c.args.self.now.propagator.known.truths.items c.deref.result.now h.agrees.known c.in_default.ensures.none
    (subst (λ (xs : List ℕ). meets v xs ≡ true) (sym c.deref.ensures.value) m))

pub invariant_of-self-2 : goal.invariant_of-self-2
invariant_of-self-2 c = (c.args.self.now.marks.listed, tt)

pub returns-in_err-place-clause-meeting : goal.returns-in_err-place-clause-meeting
returns-in_err-place-clause-meeting c =
    stored c.args.self.now.marks.literals.items c.args.self.now _ refl refl
    (λ v m met. c.add.ensures.met v (subst (λ (xs : List ℕ). meets v xs ≡ true) (sym c.deref-2.ensures.value) m) met)

pub returns-clause-meeting : goal.returns-clause-meeting
returns-clause-meeting c =
    stored c.args.self.now.marks.literals.items c.args.self.now _ refl refl
    (λ v m met. c.add.ensures.met v (subst (λ (xs : List ℕ). meets v xs ≡ true) (sym c.deref-2.ensures.value) m) met)

pub returns-in_default-clause-numbered : goal.returns-in_default-clause-numbered
returns-in_default-clause-numbered c = record {
  kept = record { hinted = refl; variables = omega arith; refuted = λ _. refl; others = λ n it ne h. h };
  added = inl refl;
  next = inl refl;
  empty = λ _. refl;
}

pub returns-in_err-place-clause-numbered : goal.returns-in_err-place-clause-numbered
returns-in_err-place-clause-numbered c = err_on_ok c.from_residual.result _ _ c.from_residual.ensures.1

pub returns-clause-numbered : goal.returns-clause-numbered
returns-clause-numbered c =
    let literals = c.args.self.now.marks.literals.items in
    let laid = c.args.self.now.propagator.clauses.laid_out in
    let added = subst (λ (x : List ℕ). IsAdded c.args.self.now.propagator.clauses.words.items c.args.self.now.next x
    c.add.new.self.words.items c.in_ok-place.place) c.deref-2.ensures.value c.in_ok-place.ensures.added in
    on_ok_then c.add-2.result _ _
    (λ more. record {
      kept = record {
        hinted = refl;
        variables = omega arith;
        refuted = λ conflict. conflict;
        others = λ n it ne h. add_keeps _ _ _ _ _ _ literals laid c.add.new.self.laid_out added more n it h;
      };
      added = inr (λ small. (literals, same_itself literals, add_numbers _ _ _ _ _ _ literals laid c.add.new.self.laid_out added more small));
      next = inr (λ small. omega (arith, c.saturating_add-self.ensures, small));
      empty = λ none. absurd (omega (arith, c.in-Some.ensures.inside, ap length c.deref.ensures.value, ap length none));
    })
    c.add-2.ensures
