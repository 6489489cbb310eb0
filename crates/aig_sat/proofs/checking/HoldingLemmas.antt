-- Clauses of marks that are stored.
use Rattle.std.proofs.Common.{◌≡◌, inl, inr, ℕ, Bool, true, List, get_or, sym, ap, subst, ◌∙◌}
use Rattle.std.proofs.lemmas.List.Folds.{list_any_at}
use Rattle.aig_sat.specs.declared.checker.checker.Checker.{Checker}
use Rattle.aig_sat.specs.declared.checker.known.Known.{Known}
use Rattle.aig_sat.specs.checker.Distinct.{HasAll}
use Rattle.aig_sat.specs.checker.Clause.{is_true, meets}
use Rattle.aig_sat.specs.checker.Holding.{KeepsMeeting}
use Rattle.aig_sat.specs.checker.Knowledge.{AreFalse, AreFalseBeside, MakesTrue}
use Rattle.aig_sat.specs.checker.Words.{MeetsAll}
use Rattle.aig_sat.proofs.checking.ForgetLemmas.{in_from_has}
use Rattle.aig_sat.proofs.checking.PutLemmas.{literal_that_meets}
use Rattle.aig_sat.proofs.checking.TruthLemmas.{negation_false}

-- a list that has all literals of a clause is met where the clause is
pub met_as_set : (v : ℕ → Bool) (list clause : List ℕ) → HasAll list clause → meets v clause ≡ true → meets v list ≡ true
met_as_set v list clause all h =
    let (k, inside, holds) = literal_that_meets v clause h in
    let (j, within, is) = in_from_has list (get_or clause k 0) (all k inside) in
    list_any_at (is_true v) list j 0 within (ap (is_true v) is ∙ holds)

-- a clause of false literals is not met
pub all_false : (v : ℕ → Bool) (truths : List Bool) (literals : List ℕ) → MakesTrue v truths → AreFalse truths literals
    → meets v literals ≡ true → ⊥
all_false v truths literals makes all h =
    let (k, inside, holds) = literal_that_meets v literals h in
    negation_false v (get_or literals k 0) (makes _ (all k inside)) holds

-- the only literal that is not false is true
pub only_true : (v : ℕ → Bool) (truths : List Bool) (literals : List ℕ) (literal : ℕ) → MakesTrue v truths
    → AreFalseBeside truths literals literal → meets v literals ≡ true → is_true v literal ≡ true
only_true v truths literals literal makes all h =
    let (k, inside, holds) = literal_that_meets v literals h in
    elim (all k inside) [
      | inl e ↦ ap (is_true v) (sym e) ∙ holds
      | inr untrue ↦ absurd (negation_false v (get_or literals k 0) (makes _ untrue) holds)
    ]

-- a clause of the marks that is stored
pub stored : (literals : List ℕ) (old new : Checker) → new.refuted ≡ old.refuted → new.propagator.known ≡ old.propagator.known
    → ((v : ℕ → Bool) → meets v literals ≡ true → MeetsAll v old.propagator.clauses.words.items
    → MeetsAll v new.propagator.clauses.words.items)
    → KeepsMeeting literals old new
stored literals old new same_refuted same_known met v h m = record {
  open_still = same_refuted ∙ h.open_still;
  agrees = record {
    met = met v m h.agrees.met;
    known = subst (λ (x : Known). MakesTrue v x.truths.items) (sym same_known) h.agrees.known;
  };
}
