use Rattle.std.proofs.Common.{ap, length, arith}
use Rattle.std.proofs.lemmas.List.{length_push}
use Rattle.aig_base.proofs.levels.FirstLevels.{first_source}
use Rattle.aig_base.proofs.level.source_levels.Goals as goal

pub loop-preserved : goal.loop-preserved
loop-preserved c =
    let raw = c.args.circuit.now in
    let levels = c.loop.levels.items in
    let long = length_push levels 0 in
    rw c.in_ok-push.ensures.items (record {
      size = omega (arith, c.loop.invariant.size);
      first = first_source raw levels c.requires (omega (
        arith,
        c.loop.invariant.size,
        c.loop-test.true,
        ap length c.inputs.ensures,
        ap length c.latches.ensures,
      ))
          c.loop.invariant.first;
    })
