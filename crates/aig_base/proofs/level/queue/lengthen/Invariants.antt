use Rattle.std.proofs.Common.{◌≡◌, ◌⊎◌, ℕ, ◌≤◌, length, slice_index}
use Rattle.aig_base.proofs.level.queue.lengthen.Given as goal

abbrev pub invariant-loop : goal.invariant-loop
invariant-loop l = record {
  same : (k : ℕ) → slice_index l.list.items k ≡ slice_index l.fn.list.items k;
  longer : length l.fn.list.items ≤ length l.list.items;
  few : (length l.list.items ≡ length l.fn.list.items) ⊎ (length l.list.items ≤ l.size);
  reached : l.counter ≡ length l.list.items;
}
