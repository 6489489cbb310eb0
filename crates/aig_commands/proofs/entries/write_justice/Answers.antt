use Rattle.std.proofs.Common.{ℕ, List}
use Rattle.aig_parts.specs.declared.symbols.Kind.TheVariants as kinds
use Rattle.aig_unroll.proofs.InputMapLines.{partly_more, partly_stops, partly_done}
use Rattle.aig_commands.proofs.EntryLines.{lines_step, lines_end}
use Rattle.aig_commands.specs.Names.{no_literal}
use Rattle.aig_commands.proofs.entries.write_justice.Goals as goal

pub returns-in_err-write_property : goal.returns-in_err-write_property
returns-in_err-write_property g c =
    partly_stops _ c.loop-position.invariant
    (lines_step c.args.form (λ (ls : List ℕ). no_literal c.args.form) c.args.circuit.now.symbols kinds.Justice c.args.properties.now c.loop-position.position c.index-properties-position.result
    c.loop-position-test.true c.index-properties-position.is)
    c.in_err-write_property.ensures c.from_residual.ensures.0

pub loop-position-preserved : goal.loop-position-preserved
loop-position-preserved g c =
    partly_more c.loop-position.invariant
    (lines_step c.args.form (λ (ls : List ℕ). no_literal c.args.form) c.args.circuit.now.symbols kinds.Justice c.args.properties.now c.loop-position.position c.index-properties-position.result
    c.loop-position-test.true c.index-properties-position.is)
    c.in_ok-write_property.ensures

pub returns : goal.returns
returns g c =
    partly_done c.loop-position.invariant
    (lines_end c.args.form (λ (ls : List ℕ). no_literal c.args.form) c.args.circuit.now.symbols kinds.Justice c.args.properties.now c.loop-position.position c.loop-position-test.false)
