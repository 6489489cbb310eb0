-- A variable has a level where it is grounded, and one level.
use Rattle.std.proofs.Common.{◌≡◌, ◌⊎◌, inl, inr, ℕ, ◌+◌, max, List, Some, slice_get, refl, sym, ◌∙◌, ap, subst}
use Rattle.std.proofs.lemmas.Option.{same_Some}
use Rattle.aig_parts.specs.declared.gate.Gate.{Gate}
use Rattle.aig_parts.specs.Literal.{variable}
use Rattle.aig_parts.specs.declared.raw.Raw.{Raw}
use Rattle.aig_base.specs.Grounded as by
use Rattle.aig_base.specs.Grounded.{Grounded, IsAcyclic, Level, IsSource}
use Rattle.aig_base.specs.Levels.{AreLevels}
use Rattle.aig_base.specs.Sections.{IsGate}
use Rattle.aig_base.specs.Sound.{IsSound}
use Rattle.aig_base.proofs.circuits.Gates.{same_gate, source-gate}

pub level_of : {raw : Raw} {v : ℕ} → Grounded raw v → (n : ℕ) × Level raw v n
level_of (by.Grounded.source v h) = (0, by.Level.source v h)
level_of (by.Grounded.gate q g at g0 g1) =
    let (a, l0) = level_of g0 in let (b, l1) = level_of g1 in (max a b + 1, by.Level.gate q g a b at l0 l1)

-- the level of a gate variable is what the list of levels has for it
pub level_of_gate : (raw : Raw) (levels : List ℕ) (v n : ℕ) → AreLevels raw levels → IsAcyclic raw → IsGate raw v
    → slice_get levels v ≡ Some n → Level raw v n
level_of_gate raw levels v n are acyclic h at =
    let (m, level) = level_of (acyclic v h) in
    let e : m ≡ n = same_Some m n (sym (are.each v m level) ∙ at) in
    rw e at level

pub Grounded-of_level : {raw : Raw} {v n : ℕ} → Level raw v n → Grounded raw v
Grounded-of_level (by.Level.source v h) = by.Grounded.source v h
Grounded-of_level (by.Level.gate q g a b at l0 l1) =
    by.Grounded.gate q g at (Grounded-of_level l0) (Grounded-of_level l1)

-- what a level rests on
Rests : Raw → ℕ → ℕ → Type 0
Rests raw v n =
    (IsSource raw v × (n ≡ 0))
    ⊎ ((q : ℕ) × (g : Gate) × (a : ℕ) × (b : ℕ) × (slice_get raw.gates q ≡ Some g)
    × Level raw (variable g.rhs0) a × Level raw (variable g.rhs1) b × (variable g.lhs ≡ v) × (n ≡ max a b + 1))

rests : {raw : Raw} {v n : ℕ} → Level raw v n → Rests raw v n
unfolding Rests
rests (by.Level.source v h) = inl (h, refl)
rests (by.Level.gate q g a b at l0 l1) = inr (q, g, a, b, at, l0, l1, refl, refl)

pub same_level : {raw : Raw} {v m n : ℕ} → IsSound raw → Level raw v m → Level raw v n → m ≡ n
unfolding Rests
same_level {raw} s (by.Level.source v h) e = elim (rests e) [
  | inl r ↦ sym r.1
  | inr r ↦ absurd (source-gate raw s v r.0 r.1 r.4 h (sym r.7))
]
same_level {raw} {n = n} s (by.Level.gate q g a b at l0 l1) e = elim (rests e) [
  | inl r ↦ absurd (source-gate raw s (variable g.lhs) q g at r.0 refl)
  | inr r ↦
      let same : r.1 ≡ g = same_gate raw s r.0 q r.1 g r.4 at r.7 in
      let e0 : a ≡ r.2 = same_level s l0 (subst (λ (h : Gate). Level raw (variable h.rhs0) r.2) same r.5) in
      let e1 : b ≡ r.3 = same_level s l1 (subst (λ (h : Gate). Level raw (variable h.rhs1) r.3) same r.6) in
      sym (r.8 ∙ ap (λ k. max k r.3 + 1) (sym e0) ∙ ap (λ k. max a k + 1) (sym e1))
]
