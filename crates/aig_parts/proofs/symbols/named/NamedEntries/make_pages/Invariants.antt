use Rattle.std.proofs.Common.{◌≡◌, ◌≤◌, ℕ, [], length, get_or}
use Rattle.aig_parts.proofs.symbols.named.NamedEntries.make_pages.Given as goal

abbrev pub invariant-loop : goal.invariant-loop
invariant-loop l = record {
  same : (p : ℕ) → get_or l.self-inside.pages.items p [] ≡ get_or l.fn.self p [];
  made : l.counter ≤ length l.self-inside.pages.items;
}
