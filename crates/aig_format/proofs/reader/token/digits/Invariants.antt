use Rattle.std.proofs.Common.{◌≡◌, ◌<◌, ◌≤◌, ◌-◌}
use Rattle.aig_format.specs.state.Reading.{digits_at}
use Rattle.aig_format.specs.state.Reads.{KeepsSource}
use Rattle.aig_format.proofs.reader.token.digits.Given as goal

abbrev pub invariant-loop-d : goal.invariant-loop-d
invariant-loop-d g l = record {
  some : 0 < l.value;
  within : l.value ≤ l.bound;
  bytes : g.S.Source.reports l.fn.s → digits_at l.bound l.value (g.S.Source.left l.s)
      ≡ digits_at l.bound l.first (g.S.Source.left l.fn.s);
  keeps : KeepsSource g.S.Source l.fn.s l.s;
}

abbrev pub decreases-loop-d : goal.decreases-loop-d
decreases-loop-d g l = l.bound - l.value
