use Rattle.std.proofs.Common.{◌≡◌, ℕ, true, List, sym, subst, ◌∙◌}
use Rattle.std.proofs.lemmas.Bool.{false≢true}
use Rattle.aig_sat.specs.checker.Clause.{meets}
use Rattle.aig_sat.proofs.checking.HoldingLemmas.{all_false, only_true}
use Rattle.aig_sat.proofs.checker.checker.Checker.stand.Goals as goal

pub returns-in_err-store-clause-meeting : goal.returns-in_err-store-clause-meeting
returns-in_err-store-clause-meeting c = c.store.ensures

pub returns-then-is_tautology-clause-meeting : goal.returns-then-is_tautology-clause-meeting
returns-then-is_tautology-clause-meeting c = c.store.ensures

pub invariant_of-self : goal.invariant_of-self
invariant_of-self c = (c.args.self.now.marks.listed, tt)

pub returns-in_default-clause-meeting : goal.returns-in_default-clause-meeting
returns-in_default-clause-meeting c = λ v h m.
    absurd (all_false v c.args.self.now.propagator.known.truths.items c.deref.result.now h.agrees.known c.in_default.ensures.none
    (subst (λ (xs : List ℕ). meets v xs ≡ true) (sym c.deref.ensures.value) m))

pub invariant_of-self-2 : goal.invariant_of-self-2
invariant_of-self-2 c = (c.args.self.now.marks.listed, tt)

pub store_unit-requires : goal.store_unit-requires
store_unit-requires c = λ v h m.
    only_true v c.args.self.now.propagator.known.truths.items c.deref-2.result.now c.in-Some.first.literal h.agrees.known
    c.in-None.ensures (subst (λ (xs : List ℕ). meets v xs ≡ true) (sym c.deref-2.ensures.value) m)

pub returns-in-None-clause-meeting : goal.returns-in-None-clause-meeting
returns-in-None-clause-meeting c = λ v h m. c.store_unit.ensures v (record { open_still = h.open_still; agrees = h.agrees }) m

pub returns-in-Some-free_beside-clause-meeting : goal.returns-in-Some-free_beside-clause-meeting
returns-in-Some-free_beside-clause-meeting c = λ v h m. c.store_watched.ensures v (record { open_still = h.open_still; agrees = h.agrees }) m

pub returns-then-self-clause-meeting : goal.returns-then-self-clause-meeting
returns-then-self-clause-meeting c = c.store_named.ensures.meeting

pub returns-then-self-clause-numbered : goal.returns-then-self-clause-numbered
returns-then-self-clause-numbered c = λ hinted. c.store_named.ensures.numbered

pub returns-in_err-store-clause-numbered : goal.returns-in_err-store-clause-numbered
returns-in_err-store-clause-numbered c = λ hinted. absurd (false≢true (sym c.if-self.false ∙ hinted))

pub returns-then-is_tautology-clause-numbered : goal.returns-then-is_tautology-clause-numbered
returns-then-is_tautology-clause-numbered c = λ hinted. absurd (false≢true (sym c.if-self.false ∙ hinted))

pub returns-in_default-clause-numbered : goal.returns-in_default-clause-numbered
returns-in_default-clause-numbered c = λ hinted. absurd (false≢true (sym c.if-self.false ∙ hinted))

pub returns-in-None-clause-numbered : goal.returns-in-None-clause-numbered
returns-in-None-clause-numbered c = λ hinted. absurd (false≢true (sym c.if-self.false ∙ hinted))

pub returns-in-Some-free_beside-clause-numbered : goal.returns-in-Some-free_beside-clause-numbered
returns-in-Some-free_beside-clause-numbered c = λ hinted. absurd (false≢true (sym c.if-self.false ∙ hinted))
