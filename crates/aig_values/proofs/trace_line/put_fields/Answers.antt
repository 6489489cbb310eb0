use Rattle.std.proofs.lemmas.List.Elements.{All-map}
use Rattle.aig_parts.specs.declared.latch.Latch.{Latch}
use Rattle.aig_parts.specs.Literal.{variable}
use Rattle.aig_base.proofs.circuits.Circuits.{input_in_range, latch_in_range, next_in_range, output_in_range}
use Rattle.aig_values.specs.TraceText.{fields_text}
use Rattle.aig_values.proofs.FieldLemmas.{all_have, shown}
use Rattle.aig_bytes.proofs.GatherLemmas.{gathers_then, gathers_stop, gathers_failed, gathers_same}
use Rattle.aig_values.proofs.trace_line.put_fields.Goals as goal

pub put_field-requires-clause-row : goal.put_field-requires-clause-row
put_field-requires-clause-row g c =
    All-map (λ l. g.R.Row.has c.args.row.now (variable l)) (λ (x : Latch). x.lit) c.latches.result.now
    (all_have (g.R.Row.has c.args.row.now) (λ x. x.lit) c.args.circuit.now.max_var c.latches.result.now _ c.latches.ensures c.requires.row
    (latch_in_range c.args.circuit.now c.facts.ensures.sound))

pub put_field-requires-2-clause-row : goal.put_field-requires-2-clause-row
put_field-requires-2-clause-row g c =
    all_have (g.R.Row.has c.args.row.now) (λ l. l) c.args.circuit.now.max_var c.inputs.result.now _ c.inputs.ensures c.requires.row
    (input_in_range c.args.circuit.now c.facts.ensures.sound)

pub put_field-requires-3-clause-row : goal.put_field-requires-3-clause-row
put_field-requires-3-clause-row g c =
    all_have (g.R.Row.has c.args.row.now) (λ l. l) c.args.circuit.now.max_var c.outputs.result.now _ c.outputs.ensures c.requires.row
    (output_in_range c.args.circuit.now c.facts.ensures.sound)

pub put_field-requires-4-clause-row : goal.put_field-requires-4-clause-row
put_field-requires-4-clause-row g c =
    All-map (λ l. g.R.Row.has c.args.row.now (variable l)) (λ (x : Latch). x.next) c.latches-2.result.now
    (all_have (g.R.Row.has c.args.row.now) (λ x. x.next) c.args.circuit.now.max_var c.latches-2.result.now _ c.latches-2.ensures c.requires.row
    (next_in_range c.args.circuit.now c.facts.ensures.sound))

pub returns-in_err-put_field : goal.returns-in_err-put_field
unfolding fields_text
returns-in_err-put_field g c =
    let h = c.from_residual.ensures.0 in
    let is = shown (g.R.Row.cells c.args.row.now) (λ x. x.lit) 32 c.latches.result.now c.args.circuit.now.latches c.latches.ensures in
    gathers_stop _ h (gathers_failed (gathers_same c.in_err-put_field.ensures is) h)

pub returns-in_err-put_field-2 : goal.returns-in_err-put_field-2
unfolding fields_text
returns-in_err-put_field-2 g c =
    let h = c.from_residual-in_err-put_field-2.ensures.0 in
    let is = shown (g.R.Row.cells c.args.row.now) (λ x. x.lit) 32 c.latches.result.now c.args.circuit.now.latches c.latches.ensures in
    gathers_then (gathers_same c.in_ok-put_field.ensures is)
    (gathers_stop _ h (gathers_failed (rw c.inputs.ensures at c.in_err-put_field-2.ensures) h))

pub returns-in_err-put_field-3 : goal.returns-in_err-put_field-3
unfolding fields_text
returns-in_err-put_field-3 g c =
    let h = c.from_residual-in_err-put_field-3.ensures.0 in
    let is = shown (g.R.Row.cells c.args.row.now) (λ x. x.lit) 32 c.latches.result.now c.args.circuit.now.latches c.latches.ensures in
    gathers_then (gathers_same c.in_ok-put_field.ensures is)
    (gathers_then (rw c.inputs.ensures at c.in_ok-put_field-2.ensures)
    (gathers_stop _ h (gathers_failed (rw c.outputs.ensures at c.in_err-put_field-3.ensures) h)))

pub returns : goal.returns
unfolding fields_text
returns g c =
    let cells = g.R.Row.cells c.args.row.now in
    let latches = c.args.circuit.now.latches in
    gathers_then (gathers_same c.in_ok-put_field.ensures (shown cells (λ x. x.lit) 32 c.latches.result.now latches c.latches.ensures))
    (gathers_then (rw c.inputs.ensures at c.in_ok-put_field-2.ensures)
    (gathers_then (rw c.outputs.ensures at c.in_ok-put_field-3.ensures)
    (gathers_same c.put_field-4.ensures (shown cells (λ x. x.next) c.args.end c.latches-2.result.now latches c.latches-2.ensures))))
