use Rattle.std.proofs.Common.{ℕ, Bool, false, List, Option, Some, subst}
use Rattle.std.specs.Prelude.{IfSome}
use Rattle.std.specs.Option.{IsSomeAnd}
use Rattle.aig_bytes.proofs.Results.{has_none}
use Rattle.aig_sat.specs.declared.proof.hinted.Number.{Number}
use Rattle.aig_sat.specs.declared.proof.step.StepKind.{StepKind}
use Rattle.aig_sat.specs.proof.Steps.{HintedStepToCome, StepToCome, TakesText, text_to_come}
use Rattle.aig_sat.specs.proof.state.Taking.{ClauseToCome, LeadsNumber, LeadsStep, RestToCome}
use Rattle.aig_sat.proofs.models.ModelLemmas.{passed_fault}
use Rattle.aig_sat.proofs.reading.HintedLemmas.{hinted_adds, hinted_deletes}
use Rattle.aig_sat.proofs.reading.HintedRefusals.{addition_rest, body_after, body_begins, no_body, none_to_come, rest_after}
use Rattle.aig_sat.proofs.proof.reader.ProofReader.next_hinted.Goals as goal

pub returns-in_ok-addition-in-Add-clause-step : goal.returns-in_ok-addition-in-Add-clause-step
returns-in_ok-addition-in-Add-clause-step g c =
    let left = g.R.Read.left in
    let a = c.self.inside.bytes in
    let b = c.step_number.new.bytes in
    let k = c.text_kind.new.bytes in
    let new = c.addition.new.self in
    let l = left c.args.reader.now in
    let m = left c.step_number.new.reader in
    let n = left c.text_kind.new.reader in
    let done = c.in_ok-addition-in-Add.ensures in
    let (xs, leads, first) = subst (λ (next : Option Number). IfSome next (λ v. (taken : List ℕ)
    × LeadsNumber a.previous b.previous taken v.value × TakesText a b l m taken)) c.in-Some.is c.in_ok-number.ensures.number in
    let (ys, steps, second) = subst (λ (next : Option StepKind). IfSome next (λ v. (taken : List ℕ)
    × ((f : Bool) → LeadsStep f b.previous k.previous taken v) × TakesText b k m n taken)) c.in-Some-2.is
    c.in_ok-kind.ensures.kind in
    rw (← c.self.view_is) (hinted_adds a b k new.block l m n (left c.addition.new.reader) c.in-Some.number.value new.number xs ys
    done.more.number leads first second c.self.inside.names.formula new.clause new.hints c.in-Some-2.kind c.in-Add.is done.positive
    steps done.taken)

pub returns-in_ok-deletion-in-Delete-clause-step : goal.returns-in_ok-deletion-in-Delete-clause-step
returns-in_ok-deletion-in-Delete-clause-step g c =
    let left = g.R.Read.left in
    let a = c.self.inside.bytes in
    let b = c.step_number.new.bytes in
    let k = c.text_kind.new.bytes in
    let new = c.deletion.new.self in
    let l = left c.args.reader.now in
    let m = left c.step_number.new.reader in
    let n = left c.text_kind.new.reader in
    let done = c.in_ok-deletion-in-Delete.ensures in
    let (xs, leads, first) = subst (λ (next : Option Number). IfSome next (λ v. (taken : List ℕ)
    × LeadsNumber a.previous b.previous taken v.value × TakesText a b l m taken)) c.in-Some.is c.in_ok-number.ensures.number in
    let (ys, steps, second) = subst (λ (next : Option StepKind). IfSome next (λ v. (taken : List ℕ)
    × ((f : Bool) → LeadsStep f b.previous k.previous taken v) × TakesText b k m n taken)) c.in-Some-2.is
    c.in_ok-kind.ensures.kind in
    rw (← c.self.view_is) (hinted_deletes a b k new.block l m n (left c.deletion.new.reader) c.in-Some.number.value new.number xs ys
    done.more.number leads first second c.self.inside.names.formula new.clause new.hints c.in-Some-2.kind c.in-Delete.is done.clause
    steps done.taken)

pub returns-in_err-number-clause-refused : goal.returns-in_err-number-clause-refused
returns-in_err-number-clause-refused g c =
    let left = g.R.Read.left in
    let a = c.self.inside.bytes in
    let b = c.step_number.new.bytes in
    let l = left c.args.reader.now in
    let m = left c.step_number.new.reader in
    let o = text_to_come a l in
    let om = text_to_come b m in
    rw (← c.self.view_is) (λ at is. none_to_come (HintedStepToCome a.previous) o
    (c.step_number.ensures.refused.refused at (passed_fault c.step_number.result c.from_residual.result c.in_err-number.field-0.0 _
    c.in_err-number.was c.from_residual.ensures.1 is)))

pub returns-in_err-kind-clause-refused : goal.returns-in_err-kind-clause-refused
returns-in_err-kind-clause-refused g c =
    let left = g.R.Read.left in
    let a = c.self.inside.bytes in
    let b = c.step_number.new.bytes in
    let l = left c.args.reader.now in
    let m = left c.step_number.new.reader in
    let o = text_to_come a l in
    let om = text_to_come b m in
    let n = c.in-Some.number.value in
    let (xs, leads, first) = subst (λ (next : Option Number). IfSome next (λ v. (taken : List ℕ)
    × LeadsNumber a.previous b.previous taken v.value × TakesText a b l m taken)) c.in-Some.is c.in_ok-number.ensures.number in
    rw (← c.self.view_is) (λ at is. none_to_come (HintedStepToCome a.previous) o
    (λ h. c.text_kind.ensures.refused.refused at
    (passed_fault c.text_kind.result c.from_residual-in_err-kind.result c.in_err-kind.field-0.0 _ c.in_err-kind.was
    c.from_residual-in_err-kind.ensures.1 is)
    false (body_begins om n b.previous (body_after o om a.previous b.previous n xs first.come leads h))))

pub returns-in_default-2-clause-refused : goal.returns-in_default-2-clause-refused
returns-in_default-2-clause-refused g c =
    let left = g.R.Read.left in
    let a = c.self.inside.bytes in
    let b = c.step_number.new.bytes in
    let l = left c.args.reader.now in
    let m = left c.step_number.new.reader in
    let o = text_to_come a l in
    let om = text_to_come b m in
    let n = c.in-Some.number.value in
    let (xs, leads, first) = subst (λ (next : Option Number). IfSome next (λ v. (taken : List ℕ)
    × LeadsNumber a.previous b.previous taken v.value × TakesText a b l m taken)) c.in-Some.is c.in_ok-number.ensures.number in
    let (ys, of, took, at_end) = c.in_ok-kind.ensures.none (has_none c.in_ok-kind.field-0 c.in_default-2.not-Some) in
    let on = text_to_come c.text_kind.new.bytes (left c.text_kind.new.reader) in
    rw (← c.self.view_is) (λ at is. none_to_come (HintedStepToCome a.previous) o
    (λ h. no_body om on n b.previous ys took.come of at_end (body_after o om a.previous b.previous n xs first.come leads h)))

pub returns-in_err-addition-in-Add-clause-refused : goal.returns-in_err-addition-in-Add-clause-refused
returns-in_err-addition-in-Add-clause-refused g c =
    let left = g.R.Read.left in
    let a = c.self.inside.bytes in
    let b = c.step_number.new.bytes in
    let l = left c.args.reader.now in
    let m = left c.step_number.new.reader in
    let o = text_to_come a l in
    let om = text_to_come b m in
    let n = c.in-Some.number.value in
    let (xs, leads, first) = subst (λ (next : Option Number). IfSome next (λ v. (taken : List ℕ)
    × LeadsNumber a.previous b.previous taken v.value × TakesText a b l m taken)) c.in-Some.is c.in_ok-number.ensures.number in
    let k = c.text_kind.new.bytes in
    let r = left c.text_kind.new.reader in
    let on = text_to_come k r in
    let kind = c.in-Some-2.kind in
    let (ys, steps, second) = subst (λ (next : Option StepKind). IfSome next (λ v. (taken : List ℕ)
    × ((f : Bool) → LeadsStep f b.previous k.previous taken v) × TakesText b k m r taken)) c.in-Some-2.is
    c.in_ok-kind.ensures.kind in
    let goes_on = subst (λ (next : Option StepKind). IfSome next (λ _. (f : Bool) → IsSomeAnd om (StepToCome f b.previous)
    → IsSomeAnd on (ClauseToCome f k.previous))) c.in-Some-2.is c.in_ok-kind.ensures.goes_on in
    rw (← c.self.view_is) (λ at is. none_to_come (HintedStepToCome a.previous) o
    (λ h.
    let body = body_after o om a.previous b.previous n xs first.come leads h in
    let rest = rest_after om on n b.previous k.previous kind ys second.come second.previous (steps false) (goes_on false)
    body in
    let both = addition_rest on n k.previous (subst (λ (v : StepKind). IsSomeAnd on (RestToCome n k.previous v)) c.in-Add.is rest) in
    c.addition.ensures.refused.refused at
    (passed_fault c.addition.result c.from_residual-in_err-addition-in-Add.result c.in_err-addition-in-Add.field-0.0 _
    c.in_err-addition-in-Add.was c.from_residual-in_err-addition-in-Add.ensures.1 is)
    both.0 both.1))

pub returns-in_err-deletion-in-Delete-clause-refused : goal.returns-in_err-deletion-in-Delete-clause-refused
returns-in_err-deletion-in-Delete-clause-refused g c =
    let left = g.R.Read.left in
    let a = c.self.inside.bytes in
    let b = c.step_number.new.bytes in
    let l = left c.args.reader.now in
    let m = left c.step_number.new.reader in
    let o = text_to_come a l in
    let om = text_to_come b m in
    let n = c.in-Some.number.value in
    let (xs, leads, first) = subst (λ (next : Option Number). IfSome next (λ v. (taken : List ℕ)
    × LeadsNumber a.previous b.previous taken v.value × TakesText a b l m taken)) c.in-Some.is c.in_ok-number.ensures.number in
    let k = c.text_kind.new.bytes in
    let r = left c.text_kind.new.reader in
    let on = text_to_come k r in
    let kind = c.in-Some-2.kind in
    let (ys, steps, second) = subst (λ (next : Option StepKind). IfSome next (λ v. (taken : List ℕ)
    × ((f : Bool) → LeadsStep f b.previous k.previous taken v) × TakesText b k m r taken)) c.in-Some-2.is
    c.in_ok-kind.ensures.kind in
    let goes_on = subst (λ (next : Option StepKind). IfSome next (λ _. (f : Bool) → IsSomeAnd om (StepToCome f b.previous)
    → IsSomeAnd on (ClauseToCome f k.previous))) c.in-Some-2.is c.in_ok-kind.ensures.goes_on in
    rw (← c.self.view_is) (λ at is. none_to_come (HintedStepToCome a.previous) o
    (λ h.
    let body = body_after o om a.previous b.previous n xs first.come leads h in
    let rest = rest_after om on n b.previous k.previous kind ys second.come second.previous (steps false) (goes_on false)
    body in
    c.deletion.ensures.refused.refused at
    (passed_fault c.deletion.result c.from_residual-in_err-deletion-in-Delete.result
    c.in_err-deletion-in-Delete.field-0.0 _ c.in_err-deletion-in-Delete.was
    c.from_residual-in_err-deletion-in-Delete.ensures.1 is)
    (subst (λ (v : StepKind). IsSomeAnd on (RestToCome n k.previous v)) c.in-Delete.is rest)))
