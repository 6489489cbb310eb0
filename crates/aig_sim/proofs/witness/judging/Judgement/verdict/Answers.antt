use Rattle.std.proofs.Common.{◌≡◌, ℕ, ◌<◌, ◌^◌, length, Option, subst, arith}
use Rattle.std.specs.Prelude.{IfNone, IfSome}
use Rattle.aig_sim.specs.declared.witness.judging.FailedConstraint.{FailedConstraint}
use Rattle.aig_sim.specs.state.Judging.{AreHeld, FailsFirst}
use Rattle.aig_sim.specs.Verdict.{StartsWrong}
use Rattle.aig_sim.proofs.JudgingLemmas.{bad_so, fails_so, held_so, not_bad_so}
use Rattle.aig_sim.proofs.VerdictLemmas.{not_held, not_reached, reached}
use Rattle.aig_sim.proofs.witness.judging.Judgement.verdict.Goals as goal

pub returns-in-Some-failure : goal.returns-in-Some-failure
returns-in-Some-failure c w run wrong right same =
    let raw = c.args.machine.now.circuit in
    let sound = c.circuit.ensures.is_circuit.sound in
    let at = c.in-Some-failure.at in
    not_held raw w at.frame at.position
    (subst (λ (o : Option ℕ). IfNone o ((p : ℕ) → StartsWrong raw w.start p → ⊥)) c.in_default.is right)
    (fails_so sound w
    (subst (λ (o : Option FailedConstraint). IfSome o (λ at. length w.rows < 2 ^ 32 → FailsFirst raw w.start w.rows at)) c.in-Some-failure.is
    run.judged.fails (let few = run.few in omega (arith, few))))

pub returns-then-is_bad : goal.returns-then-is_bad
returns-then-is_bad c w run wrong right same =
    let raw = c.args.machine.now.circuit in
    let sound = c.circuit.ensures.is_circuit.sound in
    reached raw w (subst (λ (o : Option ℕ). IfNone o ((p : ℕ) → StartsWrong raw w.start p → ⊥)) c.in_default.is right)
    (held_so sound w (length w.rows)
    (subst (λ (o : Option FailedConstraint). IfNone o (AreHeld raw w.start w.rows (length w.rows))) c.in_default-failure.is run.judged.held))
    (bad_so sound run.some run.cells_are same (c.is_bad.ensures.yes c.if-is_bad.true))

pub returns : goal.returns
returns c w run wrong right same =
    let raw = c.args.machine.now.circuit in
    let sound = c.circuit.ensures.is_circuit.sound in
    not_reached raw w (subst (λ (o : Option ℕ). IfNone o ((p : ℕ) → StartsWrong raw w.start p → ⊥)) c.in_default.is right)
    (held_so sound w (length w.rows)
    (subst (λ (o : Option FailedConstraint). IfNone o (AreHeld raw w.start w.rows (length w.rows))) c.in_default-failure.is run.judged.held))
    (not_bad_so sound run.some run.cells_are same (c.is_bad.ensures.no c.if-is_bad.false))
