use Rattle.std.proofs.Common.{[], take, ap, sym, arith}
use Rattle.std.proofs.lemmas.List.{take-take, length-take-le, get_or-take}
use Rattle.std.specs.List.{flat_map}
use Rattle.aig_sim.specs.StimulusText.{row_line}
use Rattle.aig_bytes.proofs.GatherLemmas.{piece_more, piece_failed, gathers_same}
use Rattle.aig_sim.proofs.stimulus.writer.put_rows.Goals as goal

pub loop-frame-preserved : goal.loop-frame-preserved
loop-frame-preserved g c =
    piece_more row_line c.args.stimulus.now.rows c.loop-frame.frame [] c.loop-frame.invariant
    (omega (arith, c.loop-frame-test.true, c.requires)) (rw c.row.ensures at c.in_ok-put_row.ensures)

pub returns-in_err-put_row : goal.returns-in_err-put_row
returns-in_err-put_row g c =
    let rows = c.args.stimulus.now.rows in
    let n = c.args.frames in
    let i = c.loop-frame.frame in
    let long = length-take-le n rows c.requires in
    piece_failed row_line (take n rows) i []
    (gathers_same c.loop-frame.invariant (ap (flat_map row_line) (sym (take-take i n rows (omega (arith, c.loop-frame-test.true))))))
    (omega (arith, long, c.loop-frame-test.true))
    (gathers_same (rw c.row.ensures at c.in_err-put_row.ensures)
    (ap row_line (sym (get_or-take n rows i [] (omega (arith, long, c.loop-frame-test.true))))))
    c.from_residual.ensures.0
