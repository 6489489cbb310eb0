use Rattle.std.proofs.Common.{◌≡◌, ℕ, ◌<◌, ◌≤◌, All, Contains, Some, slice_get}
use Rattle.aig_parts.specs.Literal.{variable}
use Rattle.aig_parts.specs.declared.latch.Latch.{Latch}
use Rattle.aig_base.specs.Sections.{IsDefined}
use Rattle.aig_causes.proofs.latches.next_literals.Given as goal

abbrev pub invariant-loop-position : goal.invariant-loop-position
invariant-loop-position l = record {
  nexts : (k p : ℕ) (x : Latch) → k < l.position-index → slice_get l.latches k ≡ Some p
      → slice_get l.circuit.latches p ≡ Some x → Contains l.nexts.items x.next;
  range : All (λ n. variable n ≤ l.circuit.max_var) l.nexts.items;
  defined : All (λ n. IsDefined l.circuit (variable n)) l.nexts.items;
}
