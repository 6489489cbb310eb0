use Rattle.std.proofs.Common.{ℕ, List, [], ◌+◌, arith}
use Rattle.aig_cut.proofs.Reading.{read_end, read_more}
use Rattle.aig_cut.proofs.marks.Marks.of.Goals as goal

pub loop-line-preserved : goal.loop-line-preserved
loop-line-preserved c =
    read_more c.args.circuit.now c.args.text.now c.loop-line.marks c.add.new.self c.loop-line.rest.now c.in-Some.after.now
    (c.loop-line.line + 1) c.in-Some.cut c.in-Some.ensures.line c.in-Some.ensures.there c.add.ensures c.loop-line.invariant

pub returns-clause-marks : goal.returns-clause-marks
returns-clause-marks c =
    read_end c.args.circuit.now c.args.text.now c.loop-line.marks c.loop-line.rest.now (c.loop-line.line + 1)
    (omega (arith, c.loop-line-test.false)) c.loop-line.invariant
