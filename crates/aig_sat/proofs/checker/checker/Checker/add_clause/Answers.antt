use Rattle.std.proofs.Common.{inl, refl, arith}
use Rattle.aig_sat.specs.checker.Basis.{basis}
use Rattle.aig_sat.proofs.checking.HoldingLemmas.{met_as_set}
use Rattle.aig_sat.proofs.checking.NumberLemmas.{err_on_ok, numbered_as, on_ok_then}
use Rattle.aig_sat.proofs.checker.checker.Checker.add_clause.Goals as goal

pub returns-then-self-clause-meeting : goal.returns-then-self-clause-meeting
returns-then-self-clause-meeting c = λ v h m. h

pub returns-in_err-put-clause-meeting : goal.returns-in_err-put-clause-meeting
returns-in_err-put-clause-meeting c = λ v h m. record { open_still = h.open_still; agrees = h.agrees }

pub returns-clause-meeting : goal.returns-clause-meeting
returns-clause-meeting c = λ v h m.
    c.stand.ensures.meeting v (record { open_still = h.open_still; agrees = h.agrees })
    (met_as_set v c.put.new.self.literals.items c.args.clause.now c.in_ok-put.ensures.all m)

pub returns-then-self-clause-numbered : goal.returns-then-self-clause-numbered
returns-then-self-clause-numbered c = λ hinted. record {
  kept = record { hinted = refl; variables = omega arith; refuted = λ conflict. conflict; others = λ n it ne h. h };
  added = inl c.if-self.true;
  next = inl c.if-self.true;
  empty = λ _. c.if-self.true;
}

pub returns-in_err-put-clause-numbered : goal.returns-in_err-put-clause-numbered
returns-in_err-put-clause-numbered c = λ hinted. err_on_ok c.from_residual.result _ _ c.from_residual.ensures.1

pub returns-clause-numbered : goal.returns-clause-numbered
returns-clause-numbered c = λ hinted.
    on_ok_then c.stand.result _ _
    (numbered_as c.put.new.self.literals.items c.args.clause.now (basis c.args.self.now) _ c.in_ok-put.ensures)
    (c.stand.ensures.numbered hinted)
