use Rattle.std.proofs.Common.{◌≡◌, ℕ, List, length, refl, sym, ◌∙◌, subst, arith}
use Rattle.aig_parts.specs.declared.raw.Raw.{Raw}
use Rattle.aig_parts.specs.declared.ternary.Tern.{Tern}
use Rattle.aig_base.specs.Circuit.{IsCircuit}
use Rattle.aig_values.specs.state.Frame.{AreStates}
use Rattle.aig_sim.specs.state.Checking.{ReadsNotOne}
use Rattle.aig_sim.specs.state.Machine.{Steps}
use Rattle.aig_sim.specs.state.Reaching.{ReadsFirstBad, ReadsNoBad}
use Rattle.aig_sim.proofs.ReachedLemmas.{first_reached_here, search_begins, search_ends, search_more, search_stops}
use Rattle.aig_sim.proofs.witness.reached.run_to_bad.Goals as goal

pub loop-frame-init : goal.loop-frame-init
loop-frame-init c =
    let m = c.args.machine.now in
    record { circuit = refl; searched = search_begins m.circuit m.states c.args.rows.now.rows c.args.asked c.states.ensures.length }

pub returns-then-not-holds_constraints-clause-none : goal.returns-then-not-holds_constraints-clause-none
returns-then-not-holds_constraints-clause-none c =
    let m = c.args.machine.now in
    let i = c.loop-frame.invariant in
    let m' = c.step.new.self in
    let same : m'.circuit ≡ m.circuit = c.step.ensures.circuit ∙ i.circuit in
    let (p, fails) = subst (λ (r : Raw). (p : ℕ) × ReadsNotOne m'.cells r.constraints p) same
    (c.holds_constraints.ensures.no c.if-not-holds_constraints.true) in
    search_stops m.circuit (subst IsCircuit same c.step.ensures.is_circuit) m.states c.args.rows.now.rows c.args.asked
    c.loop-frame.frame m'.cells c.loop-frame.machine.states m'.states
    (omega (arith, c.loop-frame-test.true, c.frames-frame-end.ensures.frames)) i.searched
    (λ begun before are. subst (λ (row : List Tern). Steps m.circuit begun before row m'.cells m'.states) c.row.ensures
    (subst (λ (r : Raw). Steps r begun before c.row.result.now m'.cells m'.states) i.circuit
    (c.step.ensures.step begun before
    (subst (λ (r : Raw). AreStates r begun before (length before) c.loop-frame.machine.states) (sym i.circuit) are))))
    p fails

pub returns-in-Some-clause-some : goal.returns-in-Some-clause-some
returns-in-Some-clause-some c =
    let m = c.args.machine.now in
    let i = c.loop-frame.invariant in
    let m' = c.step.new.self in
    let same : m'.circuit ≡ m.circuit = c.step.ensures.circuit ∙ i.circuit in
    first_reached_here m.circuit (subst IsCircuit same c.step.ensures.is_circuit) m.states c.args.rows.now.rows c.args.asked
    c.loop-frame.frame m'.cells c.loop-frame.machine.states m'.states
    (omega (arith, c.loop-frame-test.true, c.frames-frame-end.ensures.frames)) i.searched
    (λ begun before are. subst (λ (row : List Tern). Steps m.circuit begun before row m'.cells m'.states) c.row.ensures
    (subst (λ (r : Raw). Steps r begun before c.row.result.now m'.cells m'.states) i.circuit
    (c.step.ensures.step begun before
    (subst (λ (r : Raw). AreStates r begun before (length before) c.loop-frame.machine.states) (sym i.circuit) are))))
    (subst (λ (r : Raw). (q : ℕ) → ReadsNotOne m'.cells r.constraints q → ⊥) same
    (c.holds_constraints.ensures.yes c.if-not-holds_constraints.false))
    c.requires.start c.in-Some.property
    (subst (λ (r : Raw). ReadsFirstBad m'.cells r.bad c.args.asked c.in-Some.property) same c.in-Some.ensures.some)

pub loop-frame-preserved : goal.loop-frame-preserved
loop-frame-preserved c =
    let m = c.args.machine.now in
    let i = c.loop-frame.invariant in
    let m' = c.step.new.self in
    let same : m'.circuit ≡ m.circuit = c.step.ensures.circuit ∙ i.circuit in
    record {
      circuit = same;
      searched = search_more m.circuit (subst IsCircuit same c.step.ensures.is_circuit) m.states c.args.rows.now.rows c.args.asked
          c.loop-frame.frame m'.cells c.loop-frame.machine.states m'.states
          (omega (arith, c.loop-frame-test.true, c.frames-frame-end.ensures.frames)) i.searched
          (λ begun before are. subst (λ (row : List Tern). Steps m.circuit begun before row m'.cells m'.states) c.row.ensures
          (subst (λ (r : Raw). Steps r begun before c.row.result.now m'.cells m'.states) i.circuit
          (c.step.ensures.step begun before
          (subst (λ (r : Raw). AreStates r begun before (length before) c.loop-frame.machine.states) (sym i.circuit) are))))
          (subst (λ (r : Raw). (q : ℕ) → ReadsNotOne m'.cells r.constraints q → ⊥) same
          (c.holds_constraints.ensures.yes c.if-not-holds_constraints.false))
          (subst (λ (r : Raw). ReadsNoBad m'.cells r.bad c.args.asked) same c.in_default.ensures.none);
    }

pub returns-clause-none : goal.returns-clause-none
returns-clause-none c =
    let m = c.args.machine.now in
    search_ends m.circuit m.states c.args.rows.now.rows c.args.asked c.loop-frame.frame c.loop-frame.machine.states
    (omega (arith, c.loop-frame-test.false, c.frames-frame-end.ensures.frames)) c.loop-frame.invariant.searched
