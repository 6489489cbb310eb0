use Rattle.std.proofs.Common.{◌≡◌, ℕ, ◌≤◌, length, Contains, Some, slice_get}
use Rattle.aig_parts.specs.Literal.{variable}
use Rattle.aig_causes.proofs.walker.Walker.begin.Given as goal

abbrev pub invariant-literals : goal.invariant-literals
invariant-literals l = record {
  left : l.left ≤ length l.literals;
  visited : l.self.visited ≡ l.initial.self.visited;
  found : l.self.found ≡ l.initial.self.found;
  weights : l.self.weights ≡ l.initial.self.weights;
  order : l.self.order ≡ l.initial.self.order;
  queued : (i k : ℕ) → l.left ≤ i → slice_get l.literals i ≡ Some k → Contains l.self.todo.items (variable k);
  only : (v : ℕ) → Contains l.self.todo.items v → (k : ℕ) × Contains l.literals k × (variable k ≡ v);
}

abbrev pub decreases-literals : goal.decreases-literals
decreases-literals l = l.left
