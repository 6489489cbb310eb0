use Rattle.std.proofs.Common.{◌<◌, length, arith}
use Rattle.aig_parts.specs.Literal.{variable}
use Rattle.aig_base.proofs.circuits.Entering.{entered_first, entries_same, one_more_first}
use Rattle.aig_base.proofs.check.entries.Entries.enter_inputs.Goals as goal

pub loop-position-preserved : goal.loop-position-preserved
loop-position-preserved c =
    let raw = c.args.raw.now in
    let p = c.loop-position.position in
    let x = c.index.result.now in
    let within : p < length raw.inputs = omega arith in
    entries_same raw.max_var _ _ _ _ (one_more_first variable raw.inputs p c.var.result x within c.index.ensures c.var.ensures)
    (c.enter.ensures raw.max_var _ c.loop-position.invariant (omega (arith, entered_first variable raw.inputs p within)))
