use Rattle.std.proofs.Common.{◌≡◌, ℕ, ◌+◌, ◌<◌, List, [], length, get_or, refl, sym, ◌∙◌, subst, arith}
use Rattle.aig_parts.specs.declared.raw.Raw.{Raw}
use Rattle.aig_parts.specs.declared.ternary.Tern.{Tern}
use Rattle.aig_base.specs.Circuit.{IsCircuit}
use Rattle.aig_values.specs.state.Frame.{AreStates}
use Rattle.aig_sim.specs.Breaks.{as_witness}
use Rattle.aig_sim.specs.state.Checking.{ReadsNotOne}
use Rattle.aig_sim.specs.state.Machine.{Steps}
use Rattle.aig_sim.proofs.BreakLemmas.{next_line, rest_of, run_starts}
use Rattle.aig_sim.proofs.VerdictLemmas.{run_on, run_fails}
use Rattle.aig_sim.proofs.witness.breaks.run_rows.Goals as goal

pub loop-frame-init : goal.loop-frame-init
loop-frame-init c =
    let m = c.args.machine.now in
    record { circuit = refl; run = run_starts m.circuit m.states c.args.rows.now.rows m.cells c.states.ensures.length }

pub loop-frame-preserved : goal.loop-frame-preserved
loop-frame-preserved c =
    let m = c.args.machine.now in
    let rows = c.args.rows.now.rows in
    let i = c.loop-frame.invariant in
    let t = c.loop-frame.frame in
    let m' = c.step.new.self in
    let lt : t < length rows = omega (arith, c.loop-frame-test.true, c.requires.frames) in
    let same : m'.circuit ≡ m.circuit = c.step.ensures.circuit ∙ i.circuit in
    let circuit : IsCircuit m.circuit = subst IsCircuit same c.step.ensures.is_circuit in
    record {
      circuit = same;
      run = run_on m.circuit circuit.sound (as_witness m.states rows) t (rest_of rows t) (rest_of rows (t + 1))
          c.loop-frame.machine.cells m'.cells c.loop-frame.machine.states m'.states (get_or rows t []) i.run lt
          (next_line rows t lt)
          (λ begun before are. subst (λ (row : List Tern). Steps m.circuit begun before row m'.cells m'.states) c.row.ensures
          (subst (λ (r : Raw). Steps r begun before c.row.result.now m'.cells m'.states) i.circuit
          (c.step.ensures.step begun before
          (subst (λ (r : Raw). AreStates r begun before (length before) c.loop-frame.machine.states) (sym i.circuit) are))))
          (subst (λ (r : Raw). (q : ℕ) → ReadsNotOne m'.cells r.constraints q → ⊥) same c.in_default.ensures.none);
    }

pub returns-in-Some-clause-some : goal.returns-in-Some-clause-some
returns-in-Some-clause-some c =
    let m = c.args.machine.now in
    let rows = c.args.rows.now.rows in
    let i = c.loop-frame.invariant in
    let t = c.loop-frame.frame in
    let p = c.in-Some.position in
    let m' = c.step.new.self in
    let lt : t < length rows = omega (arith, c.loop-frame-test.true, c.requires.frames) in
    let same : m'.circuit ≡ m.circuit = c.step.ensures.circuit ∙ i.circuit in
    let circuit : IsCircuit m.circuit = subst IsCircuit same c.step.ensures.is_circuit in
    run_fails m.circuit circuit.sound (as_witness m.states rows) t (rest_of rows t) (rest_of rows (t + 1))
    c.loop-frame.machine.cells m'.cells c.loop-frame.machine.states m'.states (get_or rows t []) i.run lt
    (next_line rows t lt)
    (λ begun before are. subst (λ (row : List Tern). Steps m.circuit begun before row m'.cells m'.states) c.row.ensures
    (subst (λ (r : Raw). Steps r begun before c.row.result.now m'.cells m'.states) i.circuit
    (c.step.ensures.step begun before
    (subst (λ (r : Raw). AreStates r begun before (length before) c.loop-frame.machine.states) (sym i.circuit) are))))
    p
    (subst (λ (r : Raw). ReadsNotOne m'.cells r.constraints p) same c.in-Some.ensures.some)
    (subst (λ (r : Raw). (q : ℕ) → q < p → ReadsNotOne m'.cells r.constraints q → ⊥) same c.in-Some.ensures.least)

pub returns-clause-none : goal.returns-clause-none
returns-clause-none c =
    λ u q below fails. c.loop-frame.invariant.run.constrained u q
    (omega (arith, below, c.loop-frame-test.false, c.loop-frame.auto.frame-end)) fails
