use Rattle.std.proofs.Common.{◌≡◌, ◌≤◌, ◌-◌, length}
use Rattle.std.specs.Prelude.{sum}
use Rattle.aig_format.specs.state.ReadingSections.{sizes_at}
use Rattle.aig_format.specs.state.Reads.{KeepsSource}
use Rattle.aig_format.specs.state.ReadingSections.{with_front}
use Rattle.aig_format.proofs.reader.section.sizes.Given as goal

abbrev pub invariant-loop : goal.invariant-loop
invariant-loop g l = record {
  count : length l.sizes.items ≡ l.counter;
  sum : sum l.sizes.items ≡ l.total;
  within : l.total ≤ 4194303;
  bytes : g.S.Source.reports l.fn.s → with_front l.sizes.items (sizes_at (l.count - l.counter) l.total (g.S.Source.left l.s))
      ≡ sizes_at l.count 0 (g.S.Source.left l.fn.s);
  keeps : KeepsSource g.S.Source l.fn.s l.s;
}
