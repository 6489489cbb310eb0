use Rattle.std.proofs.Common.{◌+◌, ◌∙◌, ◌∷◌, [], sym, ap, subst, length, arith}
use Rattle.std.proofs.lemmas.Option.{slice_get_within}
use Rattle.aig_parts.specs.Literal.{variable}
use Rattle.aig_base.proofs.checks.ReadWalks.{followed_free, followed_input, gate_there, latch_there, read_gate, read_latch}
use Rattle.aig_base.proofs.checks.ReadWalks.{on_ok, reading_follow}
use Rattle.aig_base.proofs.checks.Walks.{meets_keep, meets_left, meets_size}
use Rattle.aig_base.proofs.circuits.Circuits.{next_in_range}
use Rattle.aig_base.proofs.circuits.Gates.{sides_in_range}
use Rattle.aig_base.proofs.part.meet_read.Goals as goal

pub meet-requires : goal.meet-requires
meet-requires c =
    let (there, is) = gate_there c.args.circuit.now c.args.read c.in-Some-Gate.position c.gates.result.now c.index-gates-position.result
    c.gates.ensures c.index-gates-position.is (rw c.in-Some-Gate.field-0-is at c.in-Some-Gate.ensures.found) in
    let (in0, in1) = sides_in_range c.args.circuit.now c.facts.ensures.sound _ _ there in
    omega (arith, in0, c.var.ensures, c.requires)

pub meet-requires-in-Some-Gate : goal.meet-requires-in-Some-Gate
meet-requires-in-Some-Gate c =
    let (there, is) = gate_there c.args.circuit.now c.args.read c.in-Some-Gate.position c.gates.result.now c.index-gates-position.result
    c.gates.ensures c.index-gates-position.is (rw c.in-Some-Gate.field-0-is at c.in-Some-Gate.ensures.found) in
    let (in0, in1) = sides_in_range c.args.circuit.now c.facts.ensures.sound _ _ there in
    let size = meets_size _ _ _ _ _ c.in_ok-meet-in-Some-Gate.ensures in
    omega (arith, in1, c.var-in-Some-Gate.ensures, c.requires, size)

pub bounds-latches-position : goal.bounds-latches-position
bounds-latches-position c =
    let (x, at, is) = rw c.in-Some-Latch.field-0-is at c.in-Some-Latch.ensures.found in
    omega (arith, slice_get_within c.args.circuit.now.latches _ x at, ap length c.latches.ensures)

pub meet-requires-in-Some-Latch : goal.meet-requires-in-Some-Latch
meet-requires-in-Some-Latch c =
    let (there, is) = latch_there c.args.circuit.now c.args.read c.in-Some-Latch.position c.latches.result.now c.index-latches-position.result
    c.latches.ensures c.index-latches-position.is (rw c.in-Some-Latch.field-0-is at c.in-Some-Latch.ensures.found) in
    let low = next_in_range c.args.circuit.now c.facts.ensures.sound _ _ there in
    omega (arith, low, c.var-in-Some-Latch.ensures, c.requires)

pub returns-in-Some-Input-clause-reading : goal.returns-in-Some-Input-clause-reading
returns-in-Some-Input-clause-reading c = λ bad w.
    reading_follow c.args.circuit.now bad c.args.read _ _
    (followed_input c.args.circuit.now c.facts.ensures.sound c.args.read _ c.in-Some-Input.field-0-0
    (rw c.in-Some-Input.field-0-is at c.in-Some-Input.ensures.found)) w

pub returns-in-None-clause-reading : goal.returns-in-None-clause-reading
returns-in-None-clause-reading c = λ bad w.
    reading_follow c.args.circuit.now bad c.args.read _ _
    (followed_free c.args.circuit.now c.facts.ensures.sound c.args.read _ c.in-None.ensures.none) w

pub returns-in_ok-meet-in-Some-Gate-clause-left : goal.returns-in_ok-meet-in-Some-Gate-clause-left
returns-in_ok-meet-in-Some-Gate-clause-left c =
    let (there, is) = gate_there c.args.circuit.now c.args.read c.in-Some-Gate.position c.gates.result.now c.index-gates-position.result
    c.gates.ensures c.index-gates-position.is (rw c.in-Some-Gate.field-0-is at c.in-Some-Gate.ensures.found) in
    let (in0, in1) = sides_in_range c.args.circuit.now c.facts.ensures.sound _ _ there in
    let size = meets_size _ _ _ _ _ c.in_ok-meet-in-Some-Gate.ensures in
    on_ok c.meet-in-Some-Gate.result c.meet-in-Some-Gate.ensures
    (λ m. meets_left _ _ _ _ _ (omega (arith, in1, c.var-in-Some-Gate.ensures, c.requires, size)) m
    ∙ meets_left _ _ _ _ _ (omega (arith, in0, c.var.ensures, c.requires)) c.in_ok-meet-in-Some-Gate.ensures)

pub returns-in_ok-meet-in-Some-Gate-clause-kept : goal.returns-in_ok-meet-in-Some-Gate-clause-kept
returns-in_ok-meet-in-Some-Gate-clause-kept c =
    let (there, is) = gate_there c.args.circuit.now c.args.read c.in-Some-Gate.position c.gates.result.now c.index-gates-position.result
    c.gates.ensures c.index-gates-position.is (rw c.in-Some-Gate.field-0-is at c.in-Some-Gate.ensures.found) in
    let (in0, in1) = sides_in_range c.args.circuit.now c.facts.ensures.sound _ _ there in
    let size = meets_size _ _ _ _ _ c.in_ok-meet-in-Some-Gate.ensures in
    on_ok c.meet-in-Some-Gate.result c.meet-in-Some-Gate.ensures
    (λ m v met. meets_keep _ v _ _ _ _ (omega (arith, in1, c.var-in-Some-Gate.ensures, c.requires, size)) m
    (meets_keep _ v _ _ _ _ (omega (arith, in0, c.var.ensures, c.requires)) c.in_ok-meet-in-Some-Gate.ensures met))

pub returns-in_ok-meet-in-Some-Gate-clause-reading : goal.returns-in_ok-meet-in-Some-Gate-clause-reading
returns-in_ok-meet-in-Some-Gate-clause-reading c =
    let (there, is) = gate_there c.args.circuit.now c.args.read c.in-Some-Gate.position c.gates.result.now c.index-gates-position.result
    c.gates.ensures c.index-gates-position.is (rw c.in-Some-Gate.field-0-is at c.in-Some-Gate.ensures.found) in
    on_ok c.meet-in-Some-Gate.result c.meet-in-Some-Gate.ensures
    (λ m bad w. read_gate c.args.circuit.now c.facts.ensures.sound bad c.args.read _ _ there is _ _ _ _ _ _
    (rw c.var.ensures at c.in_ok-meet-in-Some-Gate.ensures) (rw c.var-in-Some-Gate.ensures at m) w)

pub returns-in-Some-Latch-clause-left : goal.returns-in-Some-Latch-clause-left
returns-in-Some-Latch-clause-left c =
    let (there, is) = latch_there c.args.circuit.now c.args.read c.in-Some-Latch.position c.latches.result.now c.index-latches-position.result
    c.latches.ensures c.index-latches-position.is (rw c.in-Some-Latch.field-0-is at c.in-Some-Latch.ensures.found) in
    let low = next_in_range c.args.circuit.now c.facts.ensures.sound _ _ there in
    on_ok c.meet-in-Some-Latch.result c.meet-in-Some-Latch.ensures
    (λ m. meets_left _ _ _ _ _ (omega (arith, low, c.var-in-Some-Latch.ensures, c.requires)) m)

pub returns-in-Some-Latch-clause-kept : goal.returns-in-Some-Latch-clause-kept
returns-in-Some-Latch-clause-kept c =
    let (there, is) = latch_there c.args.circuit.now c.args.read c.in-Some-Latch.position c.latches.result.now c.index-latches-position.result
    c.latches.ensures c.index-latches-position.is (rw c.in-Some-Latch.field-0-is at c.in-Some-Latch.ensures.found) in
    let low = next_in_range c.args.circuit.now c.facts.ensures.sound _ _ there in
    on_ok c.meet-in-Some-Latch.result c.meet-in-Some-Latch.ensures
    (λ m v met. meets_keep _ v _ _ _ _ (omega (arith, low, c.var-in-Some-Latch.ensures, c.requires)) m met)

pub returns-in-Some-Latch-clause-reading : goal.returns-in-Some-Latch-clause-reading
returns-in-Some-Latch-clause-reading c =
    let (there, is) = latch_there c.args.circuit.now c.args.read c.in-Some-Latch.position c.latches.result.now c.index-latches-position.result
    c.latches.ensures c.index-latches-position.is (rw c.in-Some-Latch.field-0-is at c.in-Some-Latch.ensures.found) in
    let low = next_in_range c.args.circuit.now c.facts.ensures.sound _ _ there in
    on_ok c.meet-in-Some-Latch.result c.meet-in-Some-Latch.ensures
    (λ m bad w. read_latch c.args.circuit.now c.facts.ensures.sound bad c.args.read _ _ there is _ _ _ _
    (omega (arith, low, c.requires)) (rw c.var-in-Some-Latch.ensures at m) w)
