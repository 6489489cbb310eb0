use Rattle.std.proofs.Common.{◌≡◌, drop, take, map, length}
use Rattle.aig_format.specs.state.ReadingSections.{groups_of_literals_at}
use Rattle.aig_format.specs.state.Reads.{KeepsSource}
use Rattle.aig_format.specs.state.ReadingSections.{with_front}
use Rattle.aig_format.proofs.reader.section.groups.Given as goal

abbrev pub invariant-loop-size : goal.invariant-loop-size
invariant-loop-size g l = record {
  bytes : g.S.Source.reports l.fn.s
      → with_front l.all (groups_of_literals_at (drop l.size-index l.sizes) (g.S.Source.left l.s))
      ≡ groups_of_literals_at l.sizes (g.S.Source.left l.fn.s);
  sizes : map length l.all ≡ take l.size-index l.sizes;
  keeps : KeepsSource g.S.Source l.fn.s l.s;
}
