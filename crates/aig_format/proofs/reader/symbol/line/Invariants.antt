use Rattle.std.proofs.Common.{◌≡◌, ◌≢◌}
use Rattle.std.specs.Prelude.{All}
use Rattle.aig_format.specs.state.ReadingNames.{line_at}
use Rattle.aig_format.specs.state.Reads.{KeepsSource}
use Rattle.aig_format.specs.state.ReadingSections.{with_front}
use Rattle.aig_format.proofs.reader.symbol.line.Given as goal

abbrev pub invariant-loop-s : goal.invariant-loop-s
invariant-loop-s g l = record {
  bytes : g.S.Source.reports l.fn.s → with_front l.bytes.items (line_at (g.S.Source.left l.s)) ≡ line_at (g.S.Source.left l.fn.s);
  no_end : All (λ b. b ≢ 10) l.bytes.items;
  keeps : KeepsSource g.S.Source l.fn.s l.s;
}

abbrev pub decreases-loop-s : goal.decreases-loop-s
decreases-loop-s g l = g.S.Source.more l.s
