use Rattle.std.proofs.Common.{◌≡◌, ℕ, ◌<◌, ◌-◌, length, sym, ◌∙◌, subst}
use Rattle.aig_parts.specs.declared.raw.Raw.{Raw}
use Rattle.aig_base.specs.Circuit.{IsCircuit}
use Rattle.aig_sim.specs.state.Checking.{IsFirstFailure, ReadsNotOne, HasRun}
use Rattle.aig_sim.specs.Verdict.{StartsWrong}
use Rattle.aig_sim.proofs.VerdictLemmas.{both, property_same, run_begins, other_start, not_held, not_reached, reached}
use Rattle.aig_sim.proofs.VerdictLemmas.{last_frame, shows_not_one, shown_not_one}
use Rattle.aig_values.proofs.PropertyLines.{bad_defined}
use Rattle.aig_sim.proofs.witness.judge.Goals as goal

pub returns-in-Some : goal.returns-in-Some
returns-in-Some c =
    let raw = c.args.circuit.now in
    let e = c.in_ok-machine.ensures in
    let p = c.in-Some.position in
    λ w h admitted.
    let states : c.in_ok-machine.field-0.machine.states ≡ w.start =
    e.states w h in
    other_start raw w p (both (λ r s. StartsWrong r s p) e.circuit states c.in-Some.ensures.some)
    (both (λ r s. (q : ℕ) → q < p → StartsWrong r s q → ⊥) e.circuit states c.in-Some.ensures.least)

pub returns-in-Some-failure : goal.returns-in-Some-failure
returns-in-Some-failure c =
    let raw = c.args.circuit.now in
    let e = c.in_ok-machine.ensures in
    let machine = c.in_ok-machine.field-0.machine in
    let at = c.in-Some-failure in
    λ w h admitted.
    let states : machine.states ≡ w.start =
    e.states w h in
    not_held raw w at.frame at.position
    (both (λ r s. (q : ℕ) → StartsWrong r s q → ⊥) e.circuit states c.in_default.ensures.none)
    (subst (λ (r : Raw). IsFirstFailure r w at.frame at.position) e.circuit
    (at.ensures.some w (subst (λ (r : Raw). HasRun r w 0 c.args.parts.now.rows.now machine.cells machine.states) (sym e.circuit)
    (run_begins machine.cells machine.states h states)) (sym h.frames_are)))

pub returns-then-not-is_bad : goal.returns-then-not-is_bad
returns-then-not-is_bad c =
    let raw = c.args.circuit.now in
    let e = c.in_ok-machine.ensures in
    let machine = c.in_ok-machine.field-0.machine in
    let machine' = c.run_frames-failure.new.machine in
    λ w h admitted.
    let circuit : IsCircuit raw = subst IsCircuit e.circuit e.is_circuit in
    let states : machine.states ≡ w.start =
    e.states w h in
    let (rest, run) = c.in_default-failure.ensures.none w
    (subst (λ (r : Raw). HasRun r w 0 c.args.parts.now.rows.now machine.cells machine.states) (sym e.circuit)
    (run_begins machine.cells machine.states h states)) (sym h.frames_are) in
    let done : HasRun raw w (length w.rows) rest machine'.cells machine'.states =
    subst (λ (n : ℕ). HasRun raw w n rest machine'.cells machine'.states) h.frames_are
    (subst (λ (r : Raw). HasRun r w c.args.parts.now.frames rest machine'.cells machine'.states) e.circuit run) in
    let is : ReadsNotOne machine'.cells raw.bad w.property =
    subst (λ (n : ℕ). ReadsNotOne machine'.cells raw.bad n) (property_same circuit h admitted)
    (subst (λ (r : Raw). ReadsNotOne machine'.cells r.bad c.args.parts.now.property)
    (c.run_frames-failure.ensures.circuit ∙ e.circuit) (c.is_bad.ensures.no c.if-not-is_bad.true)) in
    not_reached raw w (both (λ r s. (q : ℕ) → StartsWrong r s q → ⊥) e.circuit states c.in_default.ensures.none)
    done.constrained
    (shows_not_one raw circuit.sound w (length w.rows - 1) machine'.cells
    (last_frame raw w rest machine'.cells machine'.states h.some done) raw.bad (bad_defined raw circuit.sound) w.property is)

pub returns : goal.returns
returns c =
    let raw = c.args.circuit.now in
    let e = c.in_ok-machine.ensures in
    let machine = c.in_ok-machine.field-0.machine in
    let machine' = c.run_frames-failure.new.machine in
    λ w h admitted.
    let circuit : IsCircuit raw = subst IsCircuit e.circuit e.is_circuit in
    let states : machine.states ≡ w.start =
    e.states w h in
    let (rest, run) = c.in_default-failure.ensures.none w
    (subst (λ (r : Raw). HasRun r w 0 c.args.parts.now.rows.now machine.cells machine.states) (sym e.circuit)
    (run_begins machine.cells machine.states h states)) (sym h.frames_are) in
    let done : HasRun raw w (length w.rows) rest machine'.cells machine'.states =
    subst (λ (n : ℕ). HasRun raw w n rest machine'.cells machine'.states) h.frames_are
    (subst (λ (r : Raw). HasRun r w c.args.parts.now.frames rest machine'.cells machine'.states) e.circuit run) in
    reached raw w (both (λ r s. (q : ℕ) → StartsWrong r s q → ⊥) e.circuit states c.in_default.ensures.none)
    done.constrained
    (λ k. c.is_bad.ensures.yes c.if-not-is_bad.false
    (subst (λ (n : ℕ). ReadsNotOne machine'.cells machine'.circuit.bad n) (sym (property_same circuit h admitted))
    (subst (λ (r : Raw). ReadsNotOne machine'.cells r.bad w.property) (sym (c.run_frames-failure.ensures.circuit ∙ e.circuit))
    (shown_not_one raw circuit.sound w (length w.rows - 1) machine'.cells
    (last_frame raw w rest machine'.cells machine'.states h.some done) raw.bad (bad_defined raw circuit.sound) w.property k))))
