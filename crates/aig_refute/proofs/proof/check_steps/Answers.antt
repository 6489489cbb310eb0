use Rattle.std.proofs.Common.{◌≡◌, ℕ, List, Option, Some, arith, rules, subst, sym}
use Rattle.std.specs.Prelude.{IfSome}
use Rattle.aig_bytes.proofs.Results.{has_none}
use Rattle.aig_sat.specs.declared.proof.step.StepKind.{StepKind}
use Rattle.aig_sat.specs.proof.Proofs.{HasAddition}
use Rattle.aig_sat.proofs.models.ModelLemmas.{passed_fault}
use Rattle.aig_refute.specs.state.Reading.{ReadsEither}
use Rattle.aig_refute.proofs.EitherProofs.{adds_then, more_before, none_before, whole_before}
use Rattle.aig_refute.proofs.proof.check_steps.Goals as goal

pub loop-number-init : goal.loop-number-init
loop-number-init g c = record {
  keeps = λ values s. (values, s);
  count = search rules;
  steps = λ whole begun.
      none_before c.args.is_hinted c.args.steps.now whole (g.R.Read.left c.args.proof.now) c.requires begun;
}

pub loop-number-preserved : goal.loop-number-preserved
loop-number-preserved g c =
    let old = c.loop-number.steps in
    let new = c.next_step.new.steps in
    let left = g.R.Read.left in
    let l = left c.loop-number.proof in
    let m = left c.next_step.new.proof in
    let h = c.args.is_hinted in
    record {
      keeps = λ values s.
          let (others, met) = c.loop-number.invariant.keeps values s in
          c.in_ok-take_step.ensures.keeps others (c.add_variables.ensures.follows others met);
      count = omega (arith, c.in_ok-kind.ensures.count);
      steps = λ whole begun.
          more_before h old new whole l m c.loop-number.number c.in-Some.kind (c.loop-number.invariant.steps whole begun)
          (subst (ReadsEither h old new l m) c.in-Some.is c.in_ok-kind.ensures.step);
    }

pub returns-then-is_refuted-clause-refuted : goal.returns-then-is_refuted-clause-refuted
returns-then-is_refuted-clause-refuted g c = λ values s.
    let (others, met) = c.loop-number.invariant.keeps values s in
    c.is_refuted.ensures.refuted c.if-is_refuted.true others met

pub returns-in_default-clause-whole : goal.returns-in_default-clause-whole
returns-in_default-clause-whole g c = λ whole begun is.
    let old = c.loop-number.steps in
    let new = c.next_step.new.steps in
    let left = g.R.Read.left in
    let l = left c.loop-number.proof in
    let m = left c.next_step.new.proof in
    let h = c.args.is_hinted in
    whole_before h old new whole l m c.loop-number.number (c.loop-number.invariant.steps whole begun)
    (subst (ReadsEither h old new l m) (has_none c.in_ok-kind.field-0 c.in_default.not-Some) c.in_ok-kind.ensures.step)

pub returns-in_err-take_step-clause-step : goal.returns-in_err-take_step-clause-step
returns-in_err-take_step-clause-step g c = λ whole begun n is small.
    let old = c.loop-number.steps in
    let new = c.next_step.new.steps in
    let left = g.R.Read.left in
    let l = left c.loop-number.proof in
    let m = left c.next_step.new.proof in
    let h = c.args.is_hinted in
    let why = passed_fault c.take_step.result c.from_residual-in_err-take_step.result c.in_err-take_step.field-0.0 _
    c.in_err-take_step.was c.from_residual-in_err-take_step.ensures.1 is in
    let reads = subst (λ (kind : StepKind). ReadsEither h old new l m (Some kind)) (c.take_step.ensures.adds n why)
    (subst (ReadsEither h old new l m) c.in-Some.is c.in_ok-kind.ensures.step) in
    subst (λ (k : ℕ). IfSome whole (HasAddition k)) (sym (c.take_step.ensures.number n why))
    (adds_then h old new whole l m c.loop-number.number (c.loop-number.invariant.steps whole begun) reads)
