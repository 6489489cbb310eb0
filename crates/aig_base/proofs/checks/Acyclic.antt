-- Parts with no fault are acyclic: each variable is grounded or is not.
use Rattle.std.proofs.Common.{◌≡◌, ◌⊎◌, inl, inr, ℕ, zero, suc, ◌+◌, ◌≤◌, max, List, [], ◌∷◌, slice_get, Some, refl}
use Rattle.std.proofs.Common.{subst, arith}
use Rattle.std.proofs.lemmas.Option.{same_Some}
use Rattle.std.proofs.lemmas.Bool.{cases_eq}
use Rattle.aig_parts.specs.declared.fault.Fault.{Fault}
use Rattle.aig_parts.specs.declared.fault.Fault.TheVariants as fault
use Rattle.aig_parts.specs.declared.gate.Gate.{Gate}
use Rattle.aig_parts.specs.declared.latch.Latch.{Latch}
use Rattle.aig_parts.specs.declared.raw.Raw.{Raw}
use Rattle.aig_base.specs.FirstFault.{FaultApplies, IsUngrounded}
use Rattle.aig_base.specs.Grounded as by
use Rattle.aig_base.specs.Grounded.{IsAcyclic, IsSource, Grounded, Level}
use Rattle.aig_parts.specs.Literal.{variable}
use Rattle.aig_base.specs.Sound.{IsSound}
use Rattle.aig_base.proofs.levels.LevelBound.{level_bound}
use Rattle.aig_base.proofs.checks.NoFault.{none}
use Rattle.aig_base.proofs.levels.OneLevel.{level_of}

-- an element with the one property, or all with the other
any : {A : Type 0} (P Q : A → Type 0) → ((x : A) → P x ⊎ Q x) → (xs : List A)
    → ((p : ℕ) × (x : A) × (slice_get xs p ≡ Some x) × P x) ⊎ ((p : ℕ) (x : A) → slice_get xs p ≡ Some x → Q x)
any P Q cases [] = inr (λ p x at. let no : ⊥ = cc in absurd no)
any {A = A} P Q cases (y ∷ ys) = elim (cases y) [
  | inl h ↦ inl (0, y, refl, h)
  | inr bad ↦ elim (any P Q cases ys) [
    | inl found ↦ inl (suc found.0, found.1, found.2, found.3)
    | inr all ↦ inr (λ p x at. other p x bad all at)
  ]
]
  where
    other : (p : ℕ) (x : A) → Q y → ((q : ℕ) (z : A) → slice_get ys q ≡ Some z → Q z)
        → slice_get (y ∷ ys) p ≡ Some x → Q x
    other zero x bad all at = subst Q (same_Some y x at) bad
    other (suc p) x bad all at = all p x at

module _ (raw : Raw) where
  source_cases : (v : ℕ) → IsSource raw v ⊎ (IsSource raw v → ⊥)
  source_cases zero = inl by.IsSource.constant
  source_cases (suc u) = elim (any (λ l. variable l ≡ suc u) (λ l. variable l ≡ suc u
      → ⊥) (λ l. cases_eq (variable l) (suc u)) raw.inputs) [
        | inl (p, l, at, e) ↦ inl (subst (IsSource raw) e (by.IsSource.input p l at))
        | inr no_input ↦ elim (any (λ (x : Latch). variable x.lit ≡ suc u) (λ x. variable x.lit ≡ suc u
            → ⊥) (λ x. cases_eq (variable x.lit) (suc u)) raw.latches) [
              | inl (p, x, at, e) ↦ inl (subst (IsSource raw) e (by.IsSource.latch p x at))
              | inr no_latch ↦ inr (λ s. neither (suc u) s refl no_input no_latch)
            ]
      ]
    where
      neither : (v : ℕ) → IsSource raw v → v ≡ suc u
          → ((p l : ℕ) → slice_get raw.inputs p ≡ Some l → variable l ≡ suc u → ⊥)
          → ((p : ℕ) (x : Latch) → slice_get raw.latches p ≡ Some x → variable x.lit ≡ suc u → ⊥) → ⊥
      neither v by.IsSource.constant e no_input no_latch = omega arith
      neither v (by.IsSource.input p l at) e no_input no_latch = no_input p l at e
      neither v (by.IsSource.latch p x at) e no_input no_latch = no_latch p x at e

  -- it is grounded, or has no level up to this one
  abbrev Decided : ℕ → ℕ → Type 0
  Decided n v = Grounded raw v ⊎ ((m : ℕ) → m ≤ n → Level raw v m → ⊥)

  -- a gate of the variable whose sides are grounded
  abbrev Supports : ℕ → Gate → Type 0
  Supports v g = (variable g.lhs ≡ v) × Grounded raw (variable g.rhs0) × Grounded raw (variable g.rhs1)

  -- a gate that gives the variable no level over this one and 0
  abbrev Fails : ℕ → ℕ → Gate → Type 0
  Fails n v g = variable g.lhs ≡ v → (a b : ℕ) → a ≤ n → b ≤ n → Level raw (variable g.rhs0) a
      → Level raw (variable g.rhs1) b → ⊥

  -- what a level over 0 rests on
  above : {v m : ℕ} → Level raw v m → (IsSource raw v → ⊥)
      → (q : ℕ) × (g : Gate) × (a : ℕ) × (b : ℕ) × (slice_get raw.gates q ≡ Some g) × (variable g.lhs ≡ v)
      × Level raw (variable g.rhs0) a × Level raw (variable g.rhs1) b × (m ≡ max a b + 1)
  above (by.Level.source v s) other = absurd (other s)
  above (by.Level.gate q g a b at la lb) other = (q, g, a, b, at, refl, la, lb, refl)

  by_gate : (n v : ℕ) → ((u : ℕ) → Decided n u) → (g : Gate) → Supports v g ⊎ Fails n v g
  by_gate n v sides g = elim (cases_eq (variable g.lhs) v) [
    | inr ne ↦ inr (λ e a b la lb x y. ne e)
    | inl e ↦ elim (sides (variable g.rhs0)) [
      | inr never ↦ inr (λ e a b la lb x y. never a la x)
      | inl x ↦ elim (sides (variable g.rhs1)) [
        | inr never ↦ inr (λ e a b la lb x y. never b lb y)
        | inl y ↦ inl (e, x, y)
      ]
    ]
  ]

  decided : (n v : ℕ) → Decided n v
  decided zero v = elim (source_cases v) [
    | inl s ↦ inl (by.Grounded.source v s)
    | inr other ↦ inr (λ m le l. let h = above l other in let e = h.8 in omega arith)
  ]
  decided (suc n) v = elim (source_cases v) [
    | inl s ↦ inl (by.Grounded.source v s)
    | inr other ↦ elim (any (Supports v) (Fails n v) (by_gate n v (λ u. decided n u)) raw.gates) [
      | inl (q, g, at, (e, x, y)) ↦ inl (subst (Grounded raw) e (by.Grounded.gate q g at x y))
      | inr all ↦ inr (λ m le l.
          let (q, g, a, b, at, e, la, lb, is) = above l other in
          all q g at e a b (omega arith) (omega arith) la lb)
    ]
  ]

-- parts with no fault are acyclic
pub acyclic : (raw : Raw) → IsSound raw → ((f : Fault) → FaultApplies raw f → ⊥) → IsAcyclic raw
acyclic raw sound never v is = elim (decided raw raw.max_var v) [
  | inl grounded ↦ grounded
  | inr no_level ↦
      absurd (none (IsUngrounded raw) (λ u. never (fault.Cycle u)) v
      (is, λ g. let (n, l) = level_of g in no_level n (level_bound raw sound l) l))
]
