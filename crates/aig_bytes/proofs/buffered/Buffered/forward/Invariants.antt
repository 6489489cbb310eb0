use Rattle.std.proofs.Common.{◌≡◌, ℕ, List, ◌++◌, length}
use Rattle.aig_bytes.specs.Bytes.{after}
use Rattle.aig_bytes.proofs.buffered.Buffered.forward.Given as goal

abbrev pub invariant-loop-self : goal.invariant-loop-self
invariant-loop-self g l = record {
  front : List ℕ;
  split : l.initial.self-inside.held ≡ front ++ l.self-inside.held;
  forwarded : g.W.Write.written l.self-inside.inner ≡ after (g.W.Write.written l.initial.self-inside.inner) front;
  count : g.W.Write.failures l.self-inside.inner ≡ g.W.Write.failures l.initial.self-inside.inner;
  broken : l.self-inside.is_broken ≡ l.initial.self-inside.is_broken;
  failures : l.self-inside.failures ≡ l.initial.self-inside.failures;
}

abbrev pub decreases-loop-self : goal.decreases-loop-self
decreases-loop-self g l = length l.self-inside.held
