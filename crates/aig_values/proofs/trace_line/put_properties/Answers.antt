use Rattle.aig_bytes.proofs.GatherLemmas.{gathers_then, gathers_stop, gathers_failed}
use Rattle.aig_values.proofs.FieldLemmas.{all_have}
use Rattle.aig_values.proofs.PropertyLines.{bad_in_range, constraint_in_range}
use Rattle.aig_values.proofs.trace_line.put_properties.Goals as goal

pub put_field-requires-clause-row : goal.put_field-requires-clause-row
put_field-requires-clause-row g c =
    all_have (g.R.Row.has c.args.row.now) (λ l. l) c.args.circuit.now.max_var c.bad.result.now _ c.bad.ensures c.requires.row
    (bad_in_range c.args.circuit.now c.facts.ensures.sound)

pub put_field-requires-2-clause-row : goal.put_field-requires-2-clause-row
put_field-requires-2-clause-row g c =
    all_have (g.R.Row.has c.args.row.now) (λ l. l) c.args.circuit.now.max_var c.constraints.result.now _ c.constraints.ensures
    c.requires.row (constraint_in_range c.args.circuit.now c.facts.ensures.sound)

pub returns-in_err-put_field : goal.returns-in_err-put_field
returns-in_err-put_field g c =
    let h = c.from_residual.ensures.0 in
    gathers_stop _ h (gathers_failed (rw c.bad.ensures at c.in_err-put_field.ensures) h)

pub returns : goal.returns
returns g c =
    gathers_then (rw c.bad.ensures at c.in_ok-put_field.ensures) (rw c.constraints.ensures at c.put_field-2.ensures)
