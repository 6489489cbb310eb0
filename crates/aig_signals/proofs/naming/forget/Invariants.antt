use Rattle.std.proofs.Common.{◌≡◌, ℕ, ◌<◌, ◌≤◌, length, get_or, None}
use Rattle.aig_signals.proofs.naming.forget.Given as goal

abbrev pub invariant-loop-position : goal.invariant-loop-position
invariant-loop-position l = record {
  size : length l.values ≡ length l.fn.values;
  gone : (p : ℕ) → l.fn.signal.first ≤ p → p < l.position → get_or l.values p None ≡ None;
  kept : (p : ℕ) → get_or l.fn.values p None ≡ None → get_or l.values p None ≡ None;
}
