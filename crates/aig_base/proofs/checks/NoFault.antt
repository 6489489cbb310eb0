-- Raw have no fault where they are a circuit, and are sound where they have none.
use Rattle.std.proofs.Common.{◌⊎◌, inl, inr, ℕ, zero, suc, ◌+◌, ◌*◌, ◌<◌, List, ◌∷◌, ◌++◌, map, Any}
use Rattle.std.proofs.Common.{All, Contains, get_or, option_map, refl, ◌∙◌, ap, subst, arith}
use Rattle.std.proofs.lemmas.Option.{slice_get-map, get_or_from_slice_get, slice_get-get_or}
use Rattle.std.proofs.lemmas.List.Elements.{All-contains}
use Rattle.aig_parts.specs.declared.latch.Latch.{Latch}
use Rattle.aig_parts.specs.declared.fault.Fault.{Fault}
use Rattle.aig_parts.specs.declared.fault.Fault.TheVariants as fault
use Rattle.aig_parts.specs.Literal.{variable}
use Rattle.aig_parts.specs.declared.raw.Raw.{Raw}
use Rattle.aig_base.specs.Sections.{definitions, uses, IsDefined}
use Rattle.aig_base.specs.Grounded.{IsAcyclic}
use Rattle.aig_base.specs.Sound.{IsSound, IsInRange, IsDefinition, IsRedefined, IsUndefined, IsReset}
use Rattle.aig_base.specs.FirstFault.{IsLeast, HasBadReset, FaultApplies}
use Rattle.aig_base.proofs.lists.Positions.{Contains-from_slice_get, unmap, position_of, contains_or_not}

-- a circuit has no fault
pub no_fault : (raw : Raw) → IsSound raw → IsAcyclic raw → (f : Fault) → FaultApplies raw f → ⊥
no_fault raw s a fault.Range (k, l, lt, is, over) =
    let h : IsInRange raw l = All-contains (IsInRange raw) (definitions raw ++ uses raw) l s.in_range (k, lt, is) in
    omega arith
no_fault raw s a fault.Definition (k, l, lt, is, bad) =
    bad (All-contains IsDefinition (definitions raw) l s.definitions (k, lt, is))
no_fault raw s a (fault.Redefined v) h = s.once v h.0
no_fault raw s a (fault.Undefined v) ((used, bad), least) =
    let (l, i, at, is) = unmap variable (uses raw) v used in
    let inside = Contains-from_slice_get (uses raw) i l at in
    bad (subst (IsDefined raw) is (All-contains (λ l. IsDefined raw (variable l)) (uses raw) l s.defined inside))
no_fault raw s a (fault.Reset v) ((p, x, at, is, bad), least) =
    bad (All-contains IsReset raw.latches x s.resets (Contains-from_slice_get raw.latches p x at))
no_fault raw s a (fault.Cycle v) h = h.0.1 (a v h.0.0)
no_fault raw s a (fault.Text at) h = h
no_fault raw s a fault.Limit h = h
no_fault raw s a fault.Counts h = h
no_fault raw s a fault.Memory h = h
no_fault raw s a fault.Io h = h

-- where there is no least, there is none
none_below : (P : ℕ → Type 0) → ((v : ℕ) → IsLeast P v → ⊥) → (n v : ℕ) → v < n → P v → ⊥
none_below P never zero v lt h = absurd (omega arith)
none_below P never (suc n) v lt h = never v (h, λ u below k. none_below P never n u (omega arith) k)

pub none : (P : ℕ → Type 0) → ((v : ℕ) → IsLeast P v → ⊥) → (v : ℕ) → P v → ⊥
none P never v h = none_below P never (suc v) v (omega arith) h

definition_cases : (l : ℕ) → IsDefinition l ⊎ (IsDefinition l → ⊥)
definition_cases l = grind arith

reset_cases : (x : Latch) → IsReset x ⊎ (IsReset x → ⊥)
reset_cases x = grind arith

-- what no element contradicts holds of each
all_from_none : {A : Type 0} → (P : A → Type 0) → ((x : A) → P x ⊎ (P x → ⊥)) → (xs : List A)
    → (Any (λ x. P x → ⊥) xs → ⊥) → All P xs
all_from_none P cases xs never k d lt = elim (cases (get_or xs k d)) [
  | inl h ↦ h
  | inr bad ↦
      absurd (let x = get_or xs k d in
      never (k, x, lt, get_or_from_slice_get xs k x x (slice_get-get_or xs k d lt), bad))
]

-- parts with no fault are sound
pub sound : (raw : Raw) → ((f : Fault) → FaultApplies raw f → ⊥) → IsSound raw
sound raw never = record {
  in_range = all_from_none (IsInRange raw) (λ l. in_range_cases l) (definitions raw ++ uses raw)
      (λ (k, l, lt, is, bad). never fault.Range (k, l, lt, is, over l bad));
  definitions = all_from_none IsDefinition definition_cases (definitions raw) (never fault.Definition);
  once = none (IsRedefined raw) (λ v. never (fault.Redefined v));
  defined = all_from_none (λ l. IsDefined raw (variable l))
      (λ l. contains_or_not (0 ∷ map variable (definitions raw)) (variable l)) (uses raw)
      (λ (k, l, lt, is, bad).
      none (IsUndefined raw) (λ v. never (fault.Undefined v)) (variable l) (used l (k, lt, is), bad));
  resets = all_from_none IsReset reset_cases raw.latches
      (λ (k, x, lt, is, bad). none (HasBadReset raw) (λ v. never (fault.Reset v)) (variable x.lit)
      (let (p, at) = position_of raw.latches x (k, lt, is) in (p, x, at, refl, bad)));
}
  where
    in_range_cases : (l : ℕ) → IsInRange raw l ⊎ (IsInRange raw l → ⊥)
    in_range_cases l = grind arith

    over : (l : ℕ) → (IsInRange raw l → ⊥) → 2 * raw.max_var + 1 < l
    over l bad = omega arith

    used : (l : ℕ) → Contains (uses raw) l → Contains (map variable (uses raw)) (variable l)
    used l h =
        let (i, at) = position_of (uses raw) l h in
        Contains-from_slice_get (map variable (uses raw)) i (variable l)
        (slice_get-map variable (uses raw) i ∙ ap (option_map variable) at)
