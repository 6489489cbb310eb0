use Rattle.std.proofs.Common.{◌≡◌, ◌+◌, ℕ, length}
use Rattle.aig_format.specs.state.Fits.{FitsFrom}
use Rattle.aig_format.specs.state.Reads.{AddsItems}
use Rattle.aig_format.proofs.reader.line.push_buffered.Given as goal

abbrev pub invariant-loop-count : goal.invariant-loop-count
invariant-loop-count g l = record {
  adds : AddsItems g.X.Line.line_at l.first l.count l.size l.buffered l.fn.all l.all;
  fits : (v : ℕ) → v + length l.fn.all ≡ l.first → FitsFrom g.X.Line.holds v l.fn.all
      → FitsFrom g.X.Line.holds v l.all;
}
