use Rattle.std.proofs.Common.{List, length, get_or, arith, ap, sym, ◌∙◌}
use Rattle.aig_parts.specs.declared.latch.Latch.{Latch}
use Rattle.aig_base.specs.Value.{reset_value}
use Rattle.aig_shell.proofs.tables.FirstRuns.{same_value, starts_more}
use Rattle.aig_shell.proofs.session.run_kept.starts_at.Goals as goal

pub loop-place-preserved : goal.loop-place-preserved
loop-place-preserved c =
    let same = c.latches-latches.ensures in
    starts_more c.args.circuit.now.latches c.args.start.now c.loop-place.place c.index-latches-place.result
    (omega (arith, c.loop-place-test.true, ap length same)) (omega (arith, c.loop-place-test.true, c.if-latches-start.false))
    c.loop-place.invariant
    (ap (λ (x : Latch). reset_value x.reset)
    (sym (c.index-latches-place.is ∙ ap (λ (xs : List Latch). get_or xs c.loop-place.place c.index-latches-place.result) same))
    ∙ sym c.first_value.ensures ∙ same_value _ _ c.ne.result c.ne.ensures c.if-ne.false)
