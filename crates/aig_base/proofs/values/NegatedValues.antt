-- Values of negated literals, and of gates whose right sides were put in order.
use Rattle.std.proofs.Common.{◌≡◌, ℕ, suc, ◌+◌, ◌-◌, List, All, Some, slice_get, nat_lt, Bool, true, false, refl, sym}
use Rattle.std.proofs.Common.{subst, arith}
use Rattle.aig_parts.specs.declared.raw.Raw.{Raw}
use Rattle.aig_parts.specs.declared.ternary.Tern.{Tern}
use Rattle.aig_parts.specs.declared.ternary.Tern.TheVariants.{Zero, One, X}
use Rattle.aig_parts.specs.Literal.{negation}
use Rattle.aig_base.specs.Renumbered.{ready_gate}
use Rattle.aig_base.specs.Sections.{definitions}
use Rattle.aig_base.specs.Sound.{IsDefinition}
use Rattle.aig_parts.specs.Ternary.{kleene_and, kleene_not}
use Rattle.aig_base.specs.Value as value
use Rattle.aig_base.specs.Value.{Value}
use Rattle.aig_base.proofs.circuits.Places.{input, latch, gate, IsDefinition-of_definitions}

not_not : (w : Tern) → kleene_not (kleene_not w) ≡ w
not_not Zero = refl
not_not One = refl
not_not X = refl

pub and_comm : (a b : Tern) → kleene_and a b ≡ kleene_and b a
and_comm Zero Zero = refl
and_comm Zero One = refl
and_comm Zero X = refl
and_comm One Zero = refl
and_comm One One = refl
and_comm One X = refl
and_comm X Zero = refl
and_comm X One = refl
and_comm X X = refl

module _ (raw : Raw) (start : List Tern) (rows : List (List Tern)) (defs : All IsDefinition (definitions raw)) where
  turn : (t l : ℕ) (w : Tern) → IsDefinition l → Value raw start rows t l w
      → Value raw start rows t (negation l) (kleene_not w)
  turn t l w (even, over) v =
      let e : negation l ≡ l + 1 = rw even refl in
      let f : l ≡ l + 1 - 1 = omega arith in
      let g : Value raw start rows t (l + 1) (kleene_not w) =
      value.negated t (l + 1) w (omega arith) (omega arith) (subst (λ k. Value raw start rows t k w) f v) in
      subst (λ k. Value raw start rows t k (kleene_not w)) (sym e) g

  -- the negation of a literal has the negated value
  pub of_negation : {t l : ℕ} {w : Tern} → Value raw start rows t l w
      → Value raw start rows t (negation l) (kleene_not w)
  of_negation (value.constant_false t) = value.constant_true t
  of_negation (value.constant_true t) = value.constant_false t
  of_negation (value.negated t l w over odd v) =
      let e : negation l ≡ l - 1 = rw odd refl in
      subst (λ k. Value raw start rows t k (kleene_not (kleene_not w))) (sym e)
      (subst (λ u. Value raw start rows t (l - 1) u) (sym (not_not w)) v)
  of_negation (value.input t p l w row at is cell) =
      turn t l w (IsDefinition-of_definitions raw defs (input p) l tt at) (value.input t p l w row at is cell)
  of_negation (value.latch_first p x w at is) =
      turn 0 x.lit w (IsDefinition-of_definitions raw defs (latch p) x.lit tt (x, at, refl))
      (value.latch_first p x w at is)
  of_negation (value.latch_next t p x w at v) =
      turn (suc t) x.lit w (IsDefinition-of_definitions raw defs (latch p) x.lit tt (x, at, refl))
      (value.latch_next t p x w at v)
  of_negation (value.gate t q g a b at va vb) =
      turn t g.lhs (kleene_and a b) (IsDefinition-of_definitions raw defs (gate q) g.lhs tt (g, at, refl))
      (value.gate t q g a b at va vb)

  -- a gate whose right sides were put in order
  pub of_ready : (t j lhs l r : ℕ) (a b : Tern) → slice_get raw.gates j ≡ Some (ready_gate lhs l r)
      → Value raw start rows t l a → Value raw start rows t r b → Value raw start rows t lhs (kleene_and a b)
  of_ready t j lhs l r a b at va vb = go (nat_lt l r) refl
    where
      go : (s : Bool) → nat_lt l r ≡ s → Value raw start rows t lhs (kleene_and a b)
      go true e =
          let here : slice_get raw.gates j ≡ Some (record { lhs = lhs; rhs0 = r; rhs1 = l }) = rw e at at in
          subst (λ u. Value raw start rows t lhs u) (and_comm b a)
          (value.gate t j (record { lhs = lhs; rhs0 = r; rhs1 = l }) b a here vb va)
      go false e =
          let here : slice_get raw.gates j ≡ Some (record { lhs = lhs; rhs0 = l; rhs1 = r }) = rw e at at in
          value.gate t j (record { lhs = lhs; rhs0 = l; rhs1 = r }) a b here va vb
