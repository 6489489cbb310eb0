use Rattle.std.proofs.Common.{◌≡◌, ℕ, ◌<◌, length, sym, ◌∙◌, subst, arith}
use Rattle.aig_parts.specs.declared.raw.Raw.{Raw}
use Rattle.aig_base.specs.Sound.{IsSound}
use Rattle.aig_sim.specs.state.Checking.{BeginsWithRow, ReadsNotOne}
use Rattle.aig_values.specs.state.Frame.{AreStates}
use Rattle.aig_sim.specs.state.Machine.{Steps}
use Rattle.aig_sim.proofs.VerdictLemmas.{begins_with_row, row_was_read, run_on, run_fails}
use Rattle.aig_sim.proofs.witness.run_frames.Goals as goal

pub read_values-rest-requires : goal.read_values-rest-requires
read_values-rest-requires c =
    let (given, len, widths, is) = c.loop-frame.invariant.rows in
    subst (λ (n : ℕ). BeginsWithRow n c.loop-frame.rest.now) (sym c.loop-frame.invariant.row)
    (begins_with_row (length c.args.row.now) c.loop-frame.rest.now given c.loop-frame.frame widths is
    (omega (arith, len, c.loop-frame-test.true)))

pub loop-frame-preserved : goal.loop-frame-preserved
loop-frame-preserved c =
    let raw = c.args.machine.now.circuit in
    let i = c.loop-frame.invariant in
    let t = c.loop-frame.frame in
    let lt = c.loop-frame-test.true in
    let (given, len, widths, is) = i.rows in
    let circuit : c.step.new.self.circuit ≡ raw = c.step.ensures.circuit ∙ i.circuit in
    let sound : IsSound raw = subst (λ (r : Raw). IsSound r) circuit c.step.ensures.is_circuit.sound in
    let row = c.read_values-rest.new.values in
    record {
      circuit = circuit;
      row = omega (arith, i.row);
      rows = (
        given,
        len,
        widths,
        (row_was_read c.loop-frame.rest.now c.read_values-rest.result.now given t row is (omega (arith, len, lt))
            c.read_values-rest.ensures).1,
      );
      run = λ w h count. run_on raw sound w t c.loop-frame.rest.now c.read_values-rest.result.now c.loop-frame.machine.cells
          c.step.new.self.cells c.loop-frame.machine.states c.step.new.self.states row (i.run w h count)
          (omega (arith, count, lt)) c.read_values-rest.ensures
          (λ start rows are. subst (λ (r : Raw). Steps r start rows row c.step.new.self.cells c.step.new.self.states) i.circuit
          (c.step.ensures.step start rows
          (subst (λ (r : Raw). AreStates r start rows (length rows) c.loop-frame.machine.states) (sym i.circuit) are)))
          (subst (λ (r : Raw). (q : ℕ) → ReadsNotOne c.step.new.self.cells r.constraints q → ⊥) circuit
          c.in_default.ensures.none);
    }

pub returns-in-Some-clause-some : goal.returns-in-Some-clause-some
returns-in-Some-clause-some c =
    let raw = c.args.machine.now.circuit in
    let i = c.loop-frame.invariant in
    let t = c.loop-frame.frame in
    let lt = c.loop-frame-test.true in
    let circuit : c.step.new.self.circuit ≡ raw = c.step.ensures.circuit ∙ i.circuit in
    let sound : IsSound raw = subst (λ (r : Raw). IsSound r) circuit c.step.ensures.is_circuit.sound in
    let row = c.read_values-rest.new.values in
    λ w h count. run_fails raw sound w t c.loop-frame.rest.now c.read_values-rest.result.now c.loop-frame.machine.cells
    c.step.new.self.cells c.loop-frame.machine.states c.step.new.self.states row (i.run w h count)
    (omega (arith, count, lt)) c.read_values-rest.ensures
    (λ start rows are. subst (λ (r : Raw). Steps r start rows row c.step.new.self.cells c.step.new.self.states) i.circuit
    (c.step.ensures.step start rows
    (subst (λ (r : Raw). AreStates r start rows (length rows) c.loop-frame.machine.states) (sym i.circuit) are)))
    c.in-Some.position
    (subst (λ (r : Raw). ReadsNotOne c.step.new.self.cells r.constraints c.in-Some.position) circuit c.in-Some.ensures.some)
    (subst (λ (r : Raw). (q : ℕ) → q < c.in-Some.position → ReadsNotOne c.step.new.self.cells r.constraints q → ⊥) circuit
    c.in-Some.ensures.least)
