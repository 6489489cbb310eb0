-- The rules of the value relation, with equations in place of computed indices.
use Rattle.std.proofs.Common.{◌≡◌, ℕ, suc, ◌-◌, ◌<◌, List, Some, slice_get}
use Rattle.aig_parts.specs.declared.ternary.Tern.{Tern}
use Rattle.aig_parts.specs.declared.ternary.Tern.TheVariants.{Zero, One}
use Rattle.aig_parts.specs.declared.gate.Gate.{Gate}
use Rattle.aig_parts.specs.declared.latch.Latch.{Latch}
use Rattle.aig_parts.specs.Ternary.{kleene_and, kleene_not}
use Rattle.aig_parts.specs.Literal.{IsNegated}
use Rattle.aig_parts.specs.declared.raw.Raw.{Raw}
use Rattle.aig_base.specs.Value as value
use Rattle.aig_base.specs.Value.{Value}

module _ (raw : Raw) (start : List Tern) (rows : List (List Tern)) where
  pub by_zero : (t l : ℕ) (w : Tern) → l ≡ 0 → w ≡ Zero → Value raw start rows t l w
  by_zero t l w e f = rw (e, f) (value.constant_false t)

  pub by_one : (t l : ℕ) (w : Tern) → l ≡ 1 → w ≡ One → Value raw start rows t l w
  by_one t l w e f = rw (e, f) (value.constant_true t)

  pub by_latch_first : (t l p : ℕ) (x : Latch) (w : Tern) → t ≡ 0 → slice_get raw.latches p ≡ Some x → x.lit ≡ l
      → slice_get start p ≡ Some w → Value raw start rows t l w
  by_latch_first t l p x w e at is cell = rw (e, ← is) (value.latch_first p x w at cell)

  pub by_latch_next : (t l p u : ℕ) (x : Latch) (w : Tern) → t ≡ suc u → slice_get raw.latches p ≡ Some x → x.lit ≡ l
      → Value raw start rows u x.next w → Value raw start rows t l w
  by_latch_next t l p u x w e at is v = rw (e, ← is) (value.latch_next u p x w at v)

  pub by_gate : (t l q : ℕ) (g : Gate) (a b w : Tern) → slice_get raw.gates q ≡ Some g → g.lhs ≡ l
      → Value raw start rows t g.rhs0 a → Value raw start rows t g.rhs1 b → w ≡ kleene_and a b
      → Value raw start rows t l w
  by_gate t l q g a b w at is va vb e = rw (e, ← is) (value.gate t q g a b at va vb)

  pub by_negation : (t l : ℕ) (v w : Tern) → 1 < l → IsNegated l → Value raw start rows t (l - 1) v
      → w ≡ kleene_not v → Value raw start rows t l w
  by_negation t l v w over odd is e = rw e (value.negated t l v over odd is)

pub ruleset by_rule = (by_zero, by_one, value.input, by_latch_first, by_latch_next, by_gate, by_negation)
