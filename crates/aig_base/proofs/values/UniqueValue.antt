-- A literal has at most one value.
use Rattle.std.proofs.Common.{◌≡◌, ℕ, zero, suc, ◌-◌, List, Some, slice_get, refl, sym, subst, arith}
use Rattle.aig_parts.specs.declared.ternary.Tern.{Tern}
use Rattle.aig_parts.specs.declared.ternary.Tern.TheVariants.{Zero, One}
use Rattle.aig_parts.specs.declared.gate.Gate.{Gate}
use Rattle.aig_parts.specs.declared.latch.Latch.{Latch}
use Rattle.aig_parts.specs.Ternary.{kleene_and, kleene_not}
use Rattle.aig_parts.specs.declared.raw.Raw.{Raw}
use Rattle.aig_base.specs.Sound.{IsSound}
use Rattle.aig_base.specs.Value as value
use Rattle.aig_base.specs.Value.{Value}
use Rattle.aig_base.proofs.circuits.Places.{Place, constant, input, latch, gate, odd, At, same_place}

-- the value of literal 0 or 1
abbrev pub constant_value : ℕ → Tern
constant_value zero = Zero
constant_value (suc n) = One

-- what a value at a place rests on
abbrev pub Rests : (raw : Raw) (start : List Tern) (rows : List (List Tern)) → Place → ℕ → ℕ → Tern → Type 0
Rests raw start rows constant t l w = w ≡ constant_value l
Rests raw start rows (input p) t l w = (row : List Tern) × (slice_get rows t ≡ Some row) × (slice_get row p ≡ Some w)
Rests raw start rows (latch p) zero l w = slice_get start p ≡ Some w
Rests raw start rows (latch p) (suc t) l w =
    (x : Latch) × (slice_get raw.latches p ≡ Some x) × Value raw start rows t x.next w
Rests raw start rows (gate q) t l w =
    (g : Gate) × (a : Tern) × (b : Tern) × (slice_get raw.gates q ≡ Some g)
    × Value raw start rows t g.rhs0 a × Value raw start rows t g.rhs1 b × (w ≡ kleene_and a b)
Rests raw start rows odd t l w = (v : Tern) × Value raw start rows t (l - 1) v × (w ≡ kleene_not v)

module _ (raw : Raw) (start : List Tern) (rows : List (List Tern)) where
  rests : {t l : ℕ} {w : Tern} → Value raw start rows t l w → (d : Place) × At raw d l × Rests raw start rows d t l w
  rests (value.constant_false t) = (constant, omega arith, refl)
  rests (value.constant_true t) = (constant, omega arith, refl)
  rests (value.input t p l w row at is cell) = (input p, at, (row, is, cell))
  rests (value.latch_first p x w at is) = (latch p, (x, at, refl), is)
  rests (value.latch_next t p x w at v) = (latch p, (x, at, refl), (x, at, v))
  rests (value.gate t q g a b at va vb) = (gate q, (g, at, refl), (g, a, b, at, va, vb, refl))
  rests (value.negated t l w over neg v) = (odd, (over, neg), (w, v, refl))

  -- what a value at a known place rests on
  pub rests_at : {t l : ℕ} {w : Tern} → IsSound raw → (d : Place) → At raw d l → Value raw start rows t l w
      → Rests raw start rows d t l w
  rests_at {t} {l} {w} s d at v =
      let r : (e : Place) × At raw e l × Rests raw start rows e t l w = rests v in
      subst (λ e. Rests raw start rows e t l w) (same_place raw s r.0 d l r.1 at) r.2

  pub unique : {t l : ℕ} {v w : Tern} → IsSound raw → Value raw start rows t l v → Value raw start rows t l w → v ≡ w
  unique s (value.constant_false t) e = sym (rests_at s constant (omega arith) e)
  unique s (value.constant_true t) e = sym (rests_at s constant (omega arith) e)
  unique s (value.input t p l w row at is cell) e = let r = rests_at s (input p) at e in cc
  unique s (value.latch_first p x w at is) e = let r = rests_at s (latch p) (x, at, refl) e in cc
  unique {w = u} s (value.latch_next t p x w at v) e =
      let (y, here, r) = rests_at s (latch p) (x, at, refl) e in
      let same : y ≡ x = cc in
      unique s v (subst (λ (z : Latch). Value raw start rows t z.next u) same r)
  unique s (value.gate t q g a b at va vb) e =
      let (h, a', b', here, r0, r1, is) = rests_at s (gate q) (g, at, refl) e in
      let same : h ≡ g = cc in
      let e0 : a ≡ a' = unique s va (subst (λ (z : Gate). Value raw start rows t z.rhs0 a') same r0) in
      let e1 : b ≡ b' = unique s vb (subst (λ (z : Gate). Value raw start rows t z.rhs1 b') same r1) in
      cc
  unique s (value.negated t l w over neg v) e =
      let (u, r, is) = rests_at s odd (over, neg) e in
      let e0 : w ≡ u = unique s v r in
      cc
