use Rattle.std.specs.Fmt.{decimal}
use Rattle.aig_unroll.proofs.InputMapLines.{partly_more, partly_stops, partly_done}
use Rattle.aig_commands.proofs.EntryLines.{lines_step, lines_end}
use Rattle.aig_commands.proofs.entries.write_literals.Goals as goal

pub returns-in_err-write_literal : goal.returns-in_err-write_literal
returns-in_err-write_literal g c =
    partly_stops _ c.loop-position.invariant
    (lines_step c.args.form decimal c.args.circuit.now.symbols c.args.kind c.args.literals.now c.loop-position.position c.index-literals-position.result
    c.loop-position-test.true c.index-literals-position.is)
    c.in_err-write_literal.ensures c.from_residual.ensures.0

pub loop-position-preserved : goal.loop-position-preserved
loop-position-preserved g c =
    partly_more c.loop-position.invariant
    (lines_step c.args.form decimal c.args.circuit.now.symbols c.args.kind c.args.literals.now c.loop-position.position c.index-literals-position.result
    c.loop-position-test.true c.index-literals-position.is)
    c.in_ok-write_literal.ensures

pub returns : goal.returns
returns g c =
    partly_done c.loop-position.invariant
    (lines_end c.args.form decimal c.args.circuit.now.symbols c.args.kind c.args.literals.now c.loop-position.position c.loop-position-test.false)
