use Rattle.std.proofs.Common.{◌<◌, length, map, arith}
use Rattle.std.proofs.lemmas.List.{length-map}
use Rattle.aig_base.specs.state.LeastFaulty.{latch_variable}
use Rattle.aig_parts.specs.Literal.{variable}
use Rattle.aig_base.proofs.circuits.Entering.{entered, entries_same, one_more}
use Rattle.aig_base.proofs.check.entries.Entries.enter_latches.Goals as goal

pub loop-position-preserved : goal.loop-position-preserved
loop-position-preserved c =
    let raw = c.args.raw.now in
    let p = c.loop-position.position in
    let x = c.index.result.now in
    let within : p < length raw.latches = omega arith in
    entries_same raw.max_var _ _ _ _ (one_more (map variable raw.inputs) latch_variable raw.latches p c.var.result x within
    c.index.ensures c.var.ensures)
    (c.enter.ensures raw.max_var _ c.loop-position.invariant (omega (
      arith,
      entered (map variable raw.inputs) latch_variable raw.latches p within,
      length-map raw.inputs variable,
      c.first_latch-first.ensures,
    )))
