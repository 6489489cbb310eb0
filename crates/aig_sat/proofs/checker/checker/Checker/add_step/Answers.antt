use Rattle.std.proofs.Common.{inl, refl, sym, ◌∙◌, arith}
use Rattle.std.proofs.lemmas.Bool.{false≢true}
use Rattle.aig_sat.specs.checker.Basis.{basis}
use Rattle.aig_sat.proofs.checking.HintLemmas.{err_any, if_some, if_some_then}
use Rattle.aig_sat.proofs.checking.NumberLemmas.{numbers_from, takes_from}
use Rattle.aig_sat.proofs.checking.PropagationLemmas.{agrees_narrowed}
use Rattle.aig_sat.proofs.checker.checker.Checker.add_step.Goals as goal

pub returns-then-self-clause-stands : goal.returns-then-self-clause-stands
returns-then-self-clause-stands c = λ v h. h

pub returns-then-self-clause-follows : goal.returns-then-self-clause-follows
returns-then-self-clause-follows c = λ _ v h. absurd (false≢true (sym h.open_still ∙ c.if-self.true))

pub returns-in_err-follows-clause-stands : goal.returns-in_err-follows-clause-stands
returns-in_err-follows-clause-stands c = λ v h. record { open_still = c.follows.ensures.same ∙ h.open_still; agrees = agrees_narrowed _ _ c.follows.ensures.implied.narrows v h.agrees }

pub returns-in_err-add_clause-clause-stands : goal.returns-in_err-add_clause-clause-stands
returns-in_err-add_clause-clause-stands c = λ v h.
    c.add_clause.ensures.meeting v (record { open_still = c.follows.ensures.same ∙ h.open_still; agrees = agrees_narrowed _ _ c.follows.ensures.implied.narrows v h.agrees })
    (c.in_ok-follows.ensures.implied.implied c.if-branch.true v h.agrees)

pub returns-then-branch-clause-stands : goal.returns-then-branch-clause-stands
returns-then-branch-clause-stands c = λ v h.
    c.add_clause.ensures.meeting v (record { open_still = c.follows.ensures.same ∙ h.open_still; agrees = agrees_narrowed _ _ c.follows.ensures.implied.narrows v h.agrees })
    (c.in_ok-follows.ensures.implied.implied c.if-branch.true v h.agrees)

pub returns-then-branch-clause-follows : goal.returns-then-branch-clause-follows
returns-then-branch-clause-follows c = λ _ v h. c.in_ok-follows.ensures.implied.implied c.if-branch.true v h.agrees

pub returns-clause-stands : goal.returns-clause-stands
returns-clause-stands c = λ v h. record { open_still = c.follows.ensures.same ∙ h.open_still; agrees = agrees_narrowed _ _ c.follows.ensures.implied.narrows v h.agrees }

pub returns-then-self-clause-shown : goal.returns-then-self-clause-shown
returns-then-self-clause-shown c = if_some c.args.hints _ (λ hints shown. refl)

pub returns-in_err-follows-clause-shown : goal.returns-in_err-follows-clause-shown
returns-in_err-follows-clause-shown c =
    if_some c.args.hints _ (λ hints shown. err_any c.from_residual.result _ _ c.from_residual.ensures.1)

pub returns-in_err-add_clause-clause-shown : goal.returns-in_err-add_clause-clause-shown
returns-in_err-add_clause-clause-shown c =
    if_some c.args.hints _
    (λ hints shown. err_any c.from_residual-in_err-add_clause.result _ _ c.from_residual-in_err-add_clause.ensures.1)

pub returns-then-branch-clause-shown : goal.returns-then-branch-clause-shown
returns-then-branch-clause-shown c = if_some c.args.hints _ (λ hints shown. refl)

pub returns-clause-shown : goal.returns-clause-shown
returns-clause-shown c =
    if_some_then c.args.hints _ _ (λ hints shown it. absurd (false≢true (sym c.if-branch.false ∙ shown it)))
    c.in_ok-follows.ensures.shown

pub returns-then-self-clause-numbered : goal.returns-then-self-clause-numbered
returns-then-self-clause-numbered c = λ hinted.
    if_some c.args.hints _ (λ hints. record {
      kept = record { hinted = refl; variables = omega arith; refuted = λ conflict. conflict; others = λ n it ne h. h };
      added = inl c.if-self.true;
      next = inl c.if-self.true;
      empty = λ _. c.if-self.true;
    })

pub returns-in_err-follows-clause-numbered : goal.returns-in_err-follows-clause-numbered
returns-in_err-follows-clause-numbered c = λ hinted.
    if_some c.args.hints _ (λ hints. err_any c.from_residual.result _ _ c.from_residual.ensures.1)

pub returns-in_err-add_clause-clause-numbered : goal.returns-in_err-add_clause-clause-numbered
returns-in_err-add_clause-clause-numbered c = λ hinted.
    if_some c.args.hints _ (λ hints. err_any c.from_residual-in_err-add_clause.result _ _ c.from_residual-in_err-add_clause.ensures.1)

pub returns-then-branch-clause-numbered : goal.returns-then-branch-clause-numbered
returns-then-branch-clause-numbered c = λ hinted.
    if_some_then c.args.hints _ _
    (λ hints stays.
    takes_from c.args.self.now c.follows.new.self (basis c.add_clause.new.self) c.args.clause.now stays
    c.follows.ensures.same c.follows.ensures.hinted c.follows.ensures.next (c.in_ok-add_clause.ensures.numbered (c.follows.ensures.hinted ∙ hinted)))
    c.follows.ensures.stays

pub returns-clause-numbered : goal.returns-clause-numbered
returns-clause-numbered c = λ hinted.
    if_some_then c.args.hints _ _
    (λ hints stays. (
      numbers_from c.args.self.now c.follows.new.self (basis c.follows.new.self) stays c.follows.ensures.same
          c.follows.ensures.hinted
          (record { hinted = refl; variables = omega arith; refuted = λ conflict. conflict; others = λ n it ne h. h }),
      c.follows.ensures.next,
    ))
    c.follows.ensures.stays
