use Rattle.std.proofs.Common.{◌≡◌, ◌≤◌, length, ◌-◌, ◌+◌}
use Rattle.aig_format.specs.state.Fits.{FitsFrom}
use Rattle.aig_format.specs.state.ReadingSections.{lines_at, with_front}
use Rattle.aig_format.specs.state.Reads.{KeepsSource}
use Rattle.aig_format.proofs.reader.line.lines.Given as goal

abbrev pub invariant-loop-all : goal.invariant-loop-all
invariant-loop-all g l = record {
  bytes : g.S.Source.reports l.fn.s
      → with_front l.all (lines_at g.X.Line.line_at (l.count - l.read) (l.first + l.read) (g.S.Source.left l.s))
      ≡ lines_at g.X.Line.line_at l.count l.first (g.S.Source.left l.fn.s);
  count : length l.all ≡ l.read;
  most : l.read ≤ l.count;
  fits : FitsFrom g.X.Line.holds l.first l.all;
  keeps : KeepsSource g.S.Source l.fn.s l.s;
}

abbrev pub decreases-loop-all : goal.decreases-loop-all
decreases-loop-all g l = l.count - l.read
