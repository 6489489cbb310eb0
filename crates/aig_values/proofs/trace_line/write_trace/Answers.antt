use Rattle.aig_bytes.proofs.GatherLemmas.{written_whole, written_part}
use Rattle.aig_values.proofs.trace_line.write_trace.Goals as goal

pub returns-in_err-put_lines : goal.returns-in_err-put_lines
returns-in_err-put_lines g c = written_part c.new-block.ensures c.in_err-put_lines.ensures c.from_residual.ensures.0

pub returns : goal.returns
returns g c = written_whole c.new-block.ensures c.in_ok-put_lines.ensures c.forward.ensures.written
