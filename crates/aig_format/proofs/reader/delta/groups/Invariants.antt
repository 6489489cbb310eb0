use Rattle.std.proofs.Common.{◌≡◌, ◌<◌, ◌-◌, ◌^◌}
use Rattle.aig_format.specs.state.Reading.{groups_at}
use Rattle.aig_format.specs.state.Reads.{KeepsSource}
use Rattle.aig_format.proofs.Deltas.{groups_left, delta_number}
use Rattle.aig_format.proofs.reader.delta.groups.Given as goal

abbrev pub invariant-loop-k : goal.invariant-loop-k
invariant-loop-k g l = record {
  bytes : g.S.Source.reports l.fn.s
      → delta_number l.k l.value l.weight (groups_left (4 - l.k) (g.S.Source.left l.s)) ≡ groups_at 3 (g.S.Source.left l.fn.s);
  worth : l.weight ≡ 128 ^ l.k;
  below : l.value < l.weight;
  keeps : KeepsSource g.S.Source l.fn.s l.s;
}
