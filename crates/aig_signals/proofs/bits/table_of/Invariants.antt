use Rattle.std.proofs.Common.{◌≡◌, ℕ, ◌+◌, ◌<◌, length, take, get_or, None}
use Rattle.aig_signals.specs.Bits.{bit_literal}
use Rattle.aig_signals.proofs.bits.table_of.Given as goal

abbrev pub invariant-loop-bit : goal.invariant-loop-bit
invariant-loop-bit l = record {
  size : length l.table.items ≡ l.size;
  each : (i : ℕ) → i < l.size → get_or l.table.items i None ≡ bit_literal (take l.bit-index l.bits) (l.first + i);
}
