use Rattle.std.proofs.Common.{take}
use Rattle.aig_why.specs.state.Naming.{StartsBy}
use Rattle.aig_why.proofs.StartLemmas.{AreFound}
use Rattle.aig_why.proofs.lines.starts.latches_that_start.Given as goal

abbrev pub invariant-loop-position : goal.invariant-loop-position
invariant-loop-position g l =
    AreFound (StartsBy l.bench.pair l.resets) l.by_reset (take l.position-index l.positions) l.found.items
