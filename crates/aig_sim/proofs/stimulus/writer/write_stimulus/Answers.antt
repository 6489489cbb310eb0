use Rattle.std.proofs.Common.{ap, arith}
use Rattle.std.proofs.lemmas.List.{take_all}
use Rattle.std.specs.List.{flat_map}
use Rattle.aig_bytes.proofs.GatherLemmas.{written_whole, written_part, gathers_same}
use Rattle.aig_sim.specs.StimulusText.{row_line}
use Rattle.aig_sim.proofs.stimulus.writer.write_stimulus.Goals as goal

pub returns-in_err-put_rows-clause-written : goal.returns-in_err-put_rows-clause-written
returns-in_err-put_rows-clause-written g c =
    let rows = c.args.stimulus.now.rows in
    written_part c.new-block.ensures (gathers_same c.in_err-put_rows.ensures
    (ap (flat_map row_line) (take_all c.frames.result rows (omega (arith, c.frames.ensures.frames)))))
    c.from_residual.ensures.0

pub returns-clause-written : goal.returns-clause-written
returns-clause-written g c =
    let rows = c.args.stimulus.now.rows in
    written_whole c.new-block.ensures (gathers_same c.in_ok-put_rows.ensures
    (ap (flat_map row_line) (take_all c.frames.result rows (omega (arith, c.frames.ensures.frames)))))
    c.forward.ensures.written
