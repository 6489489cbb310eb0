use Rattle.std.proofs.Common.{◌≡◌, ◌+◌, ◌∙◌, sym, ap, length, replicate, false, arith}
use Rattle.std.proofs.lemmas.List.{nil_from_length, length-replicate}
use Rattle.aig_base.proofs.circuits.Gates.{defined_in_range}
use Rattle.aig_base.proofs.checks.Walks.{search_begin, search_gate, search_pass, search_found, search_done, side_fits}
use Rattle.aig_base.proofs.checks.Walks.{meets_size, meets_left}
use Rattle.aig_base.proofs.level.cycle.would_cycle.Goals as goal

pub meet-requires : goal.meet-requires
meet-requires c =
    let low = defined_in_range c.args.circuit.now c.max_var.ensures.circuit.sound _ c.requires.defined0 in
    let size : length c.in_ok-walk.walk.met.items ≡ c.max_var.result + 1 =
    ap length c.in_ok-walk.ensures.met ∙ length-replicate (c.max_var.result + 1) false in
    omega arith

pub meet-requires-2 : goal.meet-requires-2
meet-requires-2 c =
    let low = defined_in_range c.args.circuit.now c.max_var.ensures.circuit.sound _ c.requires.defined1 in
    let size : length c.in_ok-walk.walk.met.items ≡ c.max_var.result + 1 =
    ap length c.in_ok-walk.ensures.met ∙ length-replicate (c.max_var.result + 1) false in
    let same = meets_size _ _ _ _ _ c.in_ok-meet.ensures in
    omega arith

pub loop-number-init : goal.loop-number-init
loop-number-init c =
    search_begin c.args.circuit.now c.args.gate c.args.r0 c.args.r1 _ _ _ _ _ _ c.max_var.ensures.circuit.sound
    c.requires.defined0 c.requires.defined1
    (c.in_ok-walk.ensures.met ∙ ap (λ n. replicate (n + 1) false) c.max_var.ensures.value) c.in_ok-walk.ensures.pending
    (rw c.var.ensures at c.in_ok-meet.ensures) (rw c.var-2.ensures at c.in_ok-meet-2.ensures)

pub returns-then-number-var-clause-cycle : goal.returns-then-number-var-clause-cycle
returns-then-number-var-clause-cycle c =
    search_found c.args.circuit.now c.args.gate c.args.r0 c.args.r1 _ _ _ _ c.max_var.ensures.circuit.sound
    c.requires.gate c.in-Some.ensures.items
    (c.if-number-var.true ∙ c.var-in-Some.ensures) c.loop-number.invariant

pub meet-requires-in-Some-gate_of : goal.meet-requires-in-Some-gate_of
meet-requires-in-Some-gate_of c =
    let fits = side_fits c.args.circuit.now _ _ _ _ _ _ _ c.max_var.ensures.circuit.sound c.loop-number.invariant
    c.in-Some-gate_of.ensures.found in
    rw c.var-in-Some-gate_of.ensures fits.0

pub meet-requires-in-Some-gate_of-2 : goal.meet-requires-in-Some-gate_of-2
meet-requires-in-Some-gate_of-2 c =
    let fits = side_fits c.args.circuit.now _ _ _ _ _ _ _ c.max_var.ensures.circuit.sound c.loop-number.invariant
    c.in-Some-gate_of.ensures.found in
    let same = meets_size _ _ _ _ _ c.in_ok-meet-3.ensures in
    rw (c.var-in-Some-gate_of-2.ensures, same) fits.1

pub loop-number-smaller-in-Continue-branch-5 : goal.loop-number-smaller-in-Continue-branch-5
loop-number-smaller-in-Continue-branch-5 c =
    let fits = side_fits c.args.circuit.now _ _ _ _ _ _ _ c.max_var.ensures.circuit.sound c.loop-number.invariant
    c.in-Some-gate_of.ensures.found in
    let same = meets_size _ _ _ _ _ c.in_ok-meet-3.ensures in
    let one = meets_left _ _ _ _ _ (rw c.var-in-Some-gate_of.ensures fits.0) c.in_ok-meet-3.ensures in
    let two = meets_left _ _ _ _ _ (rw (c.var-in-Some-gate_of-2.ensures, same) fits.1) c.in_ok-meet-4.ensures in
    omega (arith, c.in-Some.ensures.cases)

pub loop-number-preserved-in-Continue-branch-5 : goal.loop-number-preserved-in-Continue-branch-5
loop-number-preserved-in-Continue-branch-5 c =
    search_gate c.args.circuit.now c.args.gate c.args.r0 c.args.r1 _ _ _ _ _ _ _ _ _ c.max_var.ensures.circuit.sound
    c.in-Some.ensures.items
    (λ e. c.if-number-var.false (e ∙ sym c.var-in-Some.ensures)) c.in-Some-gate_of.ensures.found
    (rw c.var-in-Some-gate_of.ensures at c.in_ok-meet-3.ensures)
    (rw c.var-in-Some-gate_of-2.ensures at c.in_ok-meet-4.ensures) c.loop-number.invariant

pub loop-number-preserved : goal.loop-number-preserved
loop-number-preserved c =
    search_pass c.args.circuit.now c.args.gate c.args.r0 c.args.r1 _ _ _ _ c.in-Some.ensures.items
    (λ e. c.if-number-var.false (e ∙ sym c.var-in-Some.ensures)) c.in_default-gate_of.ensures.none
    c.loop-number.invariant

pub returns-clause-none : goal.returns-clause-none
returns-clause-none c =
    search_done c.args.circuit.now c.args.gate c.args.r0 c.args.r1 _ _ c.max_var.ensures.circuit c.requires.gate
    c.requires.defined0 c.requires.defined1
    (nil_from_length _ (let none = c.in_default.ensures.cases.0 in omega arith)) c.loop-number.invariant
