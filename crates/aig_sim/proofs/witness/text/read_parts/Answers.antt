use Rattle.std.proofs.Common.{◌≡◌, ◌+◌, ◌-◌, ap, ◌∙◌, length, take, drop, arith}
use Rattle.std.specs.Prelude.{List, ℕ}
use Rattle.std.proofs.lemmas.List.{length-drop, take_all}
use Rattle.aig_bytes.proofs.Results.{on_none}
use Rattle.aig_sim.proofs.WitnessLemmas.{head_is, no_line, no_position, no_body, parts_are}
use Rattle.aig_sim.proofs.witness.text.read_parts.Goals as goal

-- the bytes after a place are those to the end
to_end : (n : ℕ) (xs : List ℕ) → take (length xs - n) (drop n xs) ≡ drop n xs
to_end n xs = take_all (length xs - n) (drop n xs) (omega (arith, length-drop n xs))

pub returns-in_err-size-clause-none : goal.returns-in_err-size-clause-none
returns-in_err-size-clause-none c =
    on_none c.from_residual-in_err-size.result
    (no_line c.args.circuit.now c.args.text.now c.in_ok-position.position.now
    (head_is c.args.text.now c.in_ok-position.position c.in_ok-position.ensures.cases) c.in_err-size.ensures.none)

pub returns-in_err-property-clause-none : goal.returns-in_err-property-clause-none
returns-in_err-property-clause-none c =
    let line = c.in_ok-size.ensures.some in
    on_none c.from_residual-in_err-property.result
    (no_position c.args.circuit.now c.args.text.now c.in_ok-position.position.now
    (head_is c.args.text.now c.in_ok-position.position c.in_ok-position.ensures.cases) c.in_ok-size.size line.0 line.1 line.2
    c.in_err-property.ensures.none)

pub returns-in_err-parts-clause-none : goal.returns-in_err-parts-clause-none
returns-in_err-parts-clause-none c =
    let line = c.in_ok-size.ensures.some in
    let position = c.in_ok-position.position.now in
    on_none c.from_residual-in_err-parts.result
    (no_body c.args.circuit.now c.args.text.now position
    (head_is c.args.text.now c.in_ok-position.position c.in_ok-position.ensures.cases) c.in_ok-size.size line.0 line.1 line.2
    (take (length position - (c.in_ok-size.size + 1)) (drop (c.in_ok-size.size + 1) position))
    (length c.latches.result.now) (length c.inputs.result.now)
    (to_end (c.in_ok-size.size + 1) position) (ap length c.latches.ensures) (ap length c.inputs.ensures)
    c.in_err-parts.ensures.none)

pub returns-clause-some : goal.returns-clause-some
returns-clause-some c =
    let line = c.in_ok-size.ensures.some in
    let position = c.in_ok-position.position.now in
    let (n, decimal, property) = c.in_ok-property.ensures.some in
    let (same, from, (start, rows, len, some, count, begins, frames)) = c.in_ok-parts.ensures.some in
    parts_are c.args.circuit.now c.args.text.now position
    (head_is c.args.text.now c.in_ok-position.position c.in_ok-position.ensures.cases) c.in_ok-size.size line.0 line.1 line.2
    c.in_ok-parts.parts (take (length position - (c.in_ok-size.size + 1)) (drop (c.in_ok-size.size + 1) position))
    (length c.latches.result.now) (length c.inputs.result.now) n start rows
    (to_end (c.in_ok-size.size + 1) position) (ap length c.latches.ensures) (ap length c.inputs.ensures)
    decimal (same ∙ property) from len some count begins frames
