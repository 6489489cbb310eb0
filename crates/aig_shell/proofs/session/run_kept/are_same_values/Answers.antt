use Rattle.std.proofs.Common.{arith}
use Rattle.std.proofs.lemmas.List.{take_more_same}
use Rattle.aig_parts.specs.declared.ternary.Tern.TheVariants.{Zero}
use Rattle.aig_shell.proofs.tables.FirstRuns.{same_value}
use Rattle.aig_shell.proofs.session.run_kept.are_same_values.Goals as goal

pub loop-place-preserved : goal.loop-place-preserved
loop-place-preserved c =
    take_more_same c.args.one.now c.args.other.now c.loop-place.place Zero c.loop-place-test.true
    (omega (arith, c.loop-place-test.true, c.if-one-other.false)) c.loop-place.invariant
    (same_value _ _ c.ne.result c.ne.ensures c.if-ne.false)
