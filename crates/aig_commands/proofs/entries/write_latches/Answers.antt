use Rattle.std.specs.Fmt.{decimal}
use Rattle.aig_parts.specs.declared.latch.Latch.{Latch}
use Rattle.aig_parts.specs.declared.symbols.Kind.TheVariants as kinds
use Rattle.aig_unroll.proofs.InputMapLines.{partly_more, partly_stops, partly_done}
use Rattle.aig_commands.proofs.EntryLines.{lines_step, lines_end}
use Rattle.aig_commands.proofs.entries.write_latches.Goals as goal

pub returns-in_err-write_literal : goal.returns-in_err-write_literal
returns-in_err-write_literal g c =
    partly_stops _ c.loop-position.invariant
    (lines_step c.args.form (λ (x : Latch). decimal x.lit) c.args.circuit.now.symbols kinds.Latch c.args.latches.now c.loop-position.position c.index-latches-position.result
    c.loop-position-test.true c.index-latches-position.is)
    c.in_err-write_literal.ensures c.from_residual.ensures.0

pub loop-position-preserved : goal.loop-position-preserved
loop-position-preserved g c =
    partly_more c.loop-position.invariant
    (lines_step c.args.form (λ (x : Latch). decimal x.lit) c.args.circuit.now.symbols kinds.Latch c.args.latches.now c.loop-position.position c.index-latches-position.result
    c.loop-position-test.true c.index-latches-position.is)
    c.in_ok-write_literal.ensures

pub returns : goal.returns
returns g c =
    partly_done c.loop-position.invariant
    (lines_end c.args.form (λ (x : Latch). decimal x.lit) c.args.circuit.now.symbols kinds.Latch c.args.latches.now c.loop-position.position c.loop-position-test.false)
