use Rattle.std.proofs.Common.{◌≡◌, ◌++◌, ◌+◌, ◌*◌, ◌≤◌, length}
use Rattle.aig_signals.specs.Value.{hexadecimal}
use Rattle.aig_signals.proofs.ValueLemmas.{digits_below}
use Rattle.aig_signals.proofs.value.push_hexadecimal.Given as goal

abbrev pub invariant-loop-count : goal.invariant-loop-count
invariant-loop-count l = record {
  within : l.count * 4 ≤ length l.bits + 3;
  text : l.text.items ++ digits_below l.bits l.count ≡ l.fn.text.items ++ hexadecimal l.bits;
}

abbrev pub decreases-loop-count : goal.decreases-loop-count
decreases-loop-count l = l.count
