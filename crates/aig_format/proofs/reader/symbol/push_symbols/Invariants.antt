use Rattle.std.proofs.Common.{ℕ, ◌-◌, length}
use Rattle.aig_format.specs.state.Reads.{AddsSymbols}
use Rattle.aig_format.proofs.reader.symbol.push_symbols.Given as goal

abbrev pub invariant-loop-more : goal.invariant-loop-more
invariant-loop-more l = (count : ℕ) × AddsSymbols l.counts count l.size l.buffered l.fn.all l.all

abbrev pub decreases-loop-more : goal.decreases-loop-more
decreases-loop-more l = length l.buffered - l.size
