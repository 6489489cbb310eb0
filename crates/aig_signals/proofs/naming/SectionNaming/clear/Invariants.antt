use Rattle.std.proofs.Common.{◌≡◌, ◌<◌, All, length}
use Rattle.aig_signals.specs.state.Naming.{AreNeighbours}
use Rattle.aig_signals.proofs.NamingLemmas.{EachIsNamed}
use Rattle.aig_signals.proofs.naming.SectionNaming.clear.Given as goal

abbrev pub invariant-loop-number : goal.invariant-loop-number
invariant-loop-number l = record {
  signals : l.self-inside.signals.items ≡ l.fn.self.signals;
  size : length l.self-inside.values.items ≡ length l.fn.self.values;
  near : AreNeighbours 0 l.self-inside.signals.items (length l.self-inside.values.items);
  there : All (λ k. k < length l.self-inside.signals.items) l.self-inside.named.items;
  each : EachIsNamed l.self-inside.signals.items l.self-inside.values.items l.self-inside.named.items;
}

abbrev pub decreases-loop-number : goal.decreases-loop-number
decreases-loop-number l = length l.self-inside.named.items
