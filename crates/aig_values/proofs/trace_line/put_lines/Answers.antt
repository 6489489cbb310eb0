use Rattle.std.proofs.Common.{[], arith}
use Rattle.aig_values.specs.TraceText.{line_text}
use Rattle.aig_bytes.proofs.GatherLemmas.{piece_more, piece_failed}
use Rattle.aig_values.proofs.trace_line.put_lines.Goals as goal

pub loop-frame-preserved : goal.loop-frame-preserved
unfolding line_text
loop-frame-preserved g c =
    piece_more (line_text c.args.circuit.now) (g.G.Grid.cells c.args.grid.now) c.loop-frame.frame [] c.loop-frame.invariant
    (omega (arith, c.loop-frame-test.true, c.rows-frame-end.ensures)) c.in_ok-put_fields.ensures

pub returns-in_err-put_fields : goal.returns-in_err-put_fields
unfolding line_text
returns-in_err-put_fields g c =
    piece_failed (line_text c.args.circuit.now) (g.G.Grid.cells c.args.grid.now) c.loop-frame.frame [] c.loop-frame.invariant
    (omega (arith, c.loop-frame-test.true, c.rows-frame-end.ensures)) c.in_err-put_fields.ensures
    c.from_residual.ensures.0
