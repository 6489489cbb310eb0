use Rattle.std.proofs.Common.{◌≡◌}
use Rattle.aig_c.specs.state.Changes.{DoneSoFar}
use Rattle.aig_c.proofs.live.many.run.Given as goal

abbrev pub invariant-loop-i : goal.invariant-loop-i
invariant-loop-i l = record {
  count : l.done ≡ l.i;
  done : DoneSoFar l.initial.bench l.entries l.i l.sum l.bench;
}
