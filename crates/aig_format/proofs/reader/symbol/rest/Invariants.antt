use Rattle.std.proofs.Common.{◌≡◌, ◌++◌}
use Rattle.aig_format.specs.state.Reads.{KeepsSource}
use Rattle.aig_format.proofs.reader.symbol.rest.Given as goal

abbrev pub invariant-loop-bytes : goal.invariant-loop-bytes
invariant-loop-bytes g l = record {
  bytes : g.S.Source.reports l.fn.s → l.bytes.items ++ g.S.Source.left l.s ≡ g.S.Source.left l.fn.s;
  keeps : KeepsSource g.S.Source l.fn.s l.s;
}

abbrev pub decreases-loop-bytes : goal.decreases-loop-bytes
decreases-loop-bytes g l = g.S.Source.more l.s
