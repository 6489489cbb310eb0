use Rattle.std.proofs.Common.{length}
use Rattle.aig_format.specs.state.Fits.{AreSymbols}
use Rattle.aig_format.specs.state.ReadingNames.{symbols_at}
use Rattle.aig_format.specs.state.Reads.{KeepsSource}
use Rattle.aig_format.proofs.Symbols.{GoesOn}
use Rattle.aig_format.proofs.reader.symbol.symbols.Given as goal

abbrev pub invariant-loop-name : goal.invariant-loop-name
invariant-loop-name g l = record {
  bytes : g.S.Source.reports l.fn.s
      → GoesOn l.counts l.all (g.S.Source.left l.s)
      (symbols_at l.counts (length (g.S.Source.left l.fn.s)) l.fn.all (g.S.Source.left l.fn.s));
  symbols : AreSymbols l.counts l.fn.all → AreSymbols l.counts l.all;
  keeps : KeepsSource g.S.Source l.fn.s l.s;
}

abbrev pub decreases-loop-name : goal.decreases-loop-name
decreases-loop-name g l = g.S.Source.more l.s
