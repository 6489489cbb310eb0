use Rattle.aig_values.specs.TraceText.{line_text}
use Rattle.aig_bytes.proofs.GatherLemmas.{written_whole, written_part}
use Rattle.aig_values.proofs.trace_line.write_line.Goals as goal

pub returns-in_err-put_fields : goal.returns-in_err-put_fields
unfolding line_text
returns-in_err-put_fields g c = written_part c.clear.ensures c.in_err-put_fields.ensures c.from_residual.ensures.0

pub returns : goal.returns
unfolding line_text
returns g c = written_whole c.clear.ensures c.in_ok-put_fields.ensures c.forward.ensures.written
