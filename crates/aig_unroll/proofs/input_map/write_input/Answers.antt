use Rattle.aig_bytes.proofs.WriteLemmas.{writes_then, writes_stop}
use Rattle.aig_unroll.proofs.input_map.write_input.Goals as goal

pub returns-in_err-write_all : goal.returns-in_err-write_all
returns-in_err-write_all g c =
    writes_stop _ c.in_err-write_all.ensures c.from_residual.ensures.0

pub returns-in_err-write_field : goal.returns-in_err-write_field
returns-in_err-write_field g c =
    writes_then c.in_ok-write_all.ensures
    (writes_stop _ c.in_err-write_field.ensures c.from_residual-in_err-write_field.ensures.0)

pub returns-in_err-write_field-2 : goal.returns-in_err-write_field-2
returns-in_err-write_field-2 g c =
    writes_then c.in_ok-write_all.ensures
    (writes_then c.in_ok-write_field.ensures
    (writes_stop _ c.in_err-write_field-2.ensures c.from_residual-in_err-write_field-2.ensures.0))

pub returns-in_err-write_field-3 : goal.returns-in_err-write_field-3
returns-in_err-write_field-3 g c =
    writes_then c.in_ok-write_all.ensures
    (writes_then c.in_ok-write_field.ensures
    (writes_then c.in_ok-write_field-2.ensures
    (writes_stop _ c.in_err-write_field-3.ensures c.from_residual-in_err-write_field-3.ensures.0)))

pub returns-in_err-write_input_symbol : goal.returns-in_err-write_input_symbol
returns-in_err-write_input_symbol g c =
    writes_then c.in_ok-write_all.ensures
    (writes_then c.in_ok-write_field.ensures
    (writes_then c.in_ok-write_field-2.ensures
    (writes_then c.in_ok-write_field-3.ensures
    (writes_stop _ c.in_err-write_input_symbol.ensures c.from_residual-in_err-write_input_symbol.ensures.0))))

pub returns : goal.returns
returns g c =
    writes_then c.in_ok-write_all.ensures
    (writes_then c.in_ok-write_field.ensures
    (writes_then c.in_ok-write_field-2.ensures
    (writes_then c.in_ok-write_field-3.ensures
    (writes_then c.in_ok-write_input_symbol.ensures c.write_all-2.ensures))))
