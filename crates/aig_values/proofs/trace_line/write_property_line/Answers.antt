use Rattle.std.proofs.Common.{refl}
use Rattle.aig_bytes.proofs.GatherLemmas.{gathers_then, gathers_stop, written_whole, written_part}
use Rattle.aig_values.specs.TraceText.{property_line_text}
use Rattle.aig_values.proofs.trace_line.write_property_line.Goals as goal

pub returns-in_err-put_fields : goal.returns-in_err-put_fields
unfolding property_line_text
returns-in_err-put_fields g c =
    written_part c.clear.ensures (gathers_stop _ refl c.in_err-put_fields.ensures) c.from_residual.ensures.0

pub returns-in_err-put_properties : goal.returns-in_err-put_properties
unfolding property_line_text
returns-in_err-put_properties g c =
    written_part c.clear.ensures (gathers_then c.in_ok-put_fields.ensures c.in_err-put_properties.ensures)
    c.from_residual-in_err-put_properties.ensures.0

pub returns : goal.returns
unfolding property_line_text
returns g c =
    written_whole c.clear.ensures (gathers_then c.in_ok-put_fields.ensures c.in_ok-put_properties.ensures) c.forward.ensures.written
