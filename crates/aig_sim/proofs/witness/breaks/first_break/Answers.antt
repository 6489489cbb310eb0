use Rattle.std.proofs.Common.{◌≡◌, ◌≤◌, ℕ, ◌<◌, length, refl, sym, ap, ◌∙◌, subst, arith}
use Rattle.std.specs.Prelude.{min}
use Rattle.aig_sim.specs.declared.witness.breaks.Break.{Break}
use Rattle.aig_sim.specs.declared.witness.breaks.Break.TheVariants as breaks
use Rattle.aig_sim.specs.Breaks.{IsFirstBreak, as_witness}
use Rattle.aig_sim.specs.Verdict.{StartsWrong}
use Rattle.aig_sim.specs.state.Checking.{HoldConstraints, IsFirstFailure}
use Rattle.aig_sim.proofs.BreakLemmas.{breaks_constraint, breaks_nothing, breaks_off, breaks_start}
use Rattle.aig_sim.proofs.VerdictLemmas.{both}
use Rattle.aig_sim.proofs.witness.breaks.first_break.Goals as goal

pub returns-in-Some-clause-some : goal.returns-in-Some-clause-some
returns-in-Some-clause-some c =
    let e = c.in_ok-machine.ensures in
    let states = e.states ∙ c.in_ok-start.ensures.items ∙ c.deref.ensures.value in
    let p = c.in-Some.latch in
    breaks_start c.args.circuit.now c.args.run.now.start.items c.args.run.now.rows.rows c.args.frames p
    (both (λ r s. StartsWrong r s p) e.circuit states c.in-Some.ensures.some)
    (both (λ r s. (q : ℕ) → q < p → StartsWrong r s q → ⊥) e.circuit states c.in-Some.ensures.least)

pub returns-in-Some-run_rows-clause-some : goal.returns-in-Some-run_rows-clause-some
returns-in-Some-run_rows-clause-some c =
    let e = c.in_ok-machine.ensures in
    let states = e.states ∙ c.in_ok-start.ensures.items ∙ c.deref.ensures.value in
    let rows = c.args.run.now.rows.rows in
    let at = c.in-Some-run_rows in
    breaks_constraint c.args.circuit.now c.args.run.now.start.items rows c.args.frames
    (both (λ r s. (q : ℕ) → StartsWrong r s q → ⊥) e.circuit states c.in_default.ensures.none) at.frame at.constraint
    (omega (arith, at.ensures.frame, c.min.ensures))
    (both (λ r s. IsFirstFailure r (as_witness s rows) at.frame at.constraint) e.circuit states at.ensures.some)

pub returns-then-given-frames-clause-some : goal.returns-then-given-frames-clause-some
returns-then-given-frames-clause-some c =
    let e = c.in_ok-machine.ensures in
    let states = e.states ∙ c.in_ok-start.ensures.items ∙ c.deref.ensures.value in
    let rows = c.args.run.now.rows.rows in
    let raw = c.args.circuit.now in
    let start = c.args.run.now.start.items in
    let given_is : c.frames-given.result ≡ length rows = c.frames-given.ensures.frames in
    subst (λ (n : ℕ). IsFirstBreak raw start rows c.args.frames (breaks.Frames n)) (sym given_is)
    (breaks_off raw start rows c.args.frames
    (both (λ r s. (q : ℕ) → StartsWrong r s q → ⊥) e.circuit states c.in_default.ensures.none) c.min.result
    (both (λ r s. HoldConstraints r (as_witness s rows) c.min.result) e.circuit states c.in_default-run_rows.ensures.none)
    (omega (arith, c.min.ensures, given_is, c.if-given-frames.true)) (omega (arith, given_is, c.if-given-frames.true)))

pub returns-clause-none : goal.returns-clause-none
returns-clause-none c =
    let e = c.in_ok-machine.ensures in
    let states = e.states ∙ c.in_ok-start.ensures.items ∙ c.deref.ensures.value in
    let rows = c.args.run.now.rows.rows in
    let given_is : c.frames-given.result ≡ length rows = c.frames-given.ensures.frames in
    breaks_nothing c.args.circuit.now c.args.run.now.start.items rows c.args.frames
    (both (λ r s. (q : ℕ) → StartsWrong r s q → ⊥) e.circuit states c.in_default.ensures.none) c.min.result
    (both (λ r s. HoldConstraints r (as_witness s rows) c.min.result) e.circuit states c.in_default-run_rows.ensures.none)
    (omega (arith, c.min.ensures, given_is, c.if-given-frames.false)) (omega (arith, given_is, c.if-given-frames.false))
