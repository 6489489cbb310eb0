-- Levels that are found one after the other.
use Rattle.std.proofs.Common.{◌≡◌, ◌⊎◌, inl, inr, ℕ, ◌+◌, ◌<◌, ◌≤◌, List, [], ◌∷◌, ◌++◌, length, get_or, slice_get}
use Rattle.std.proofs.Common.{Some, refl, sym, ◌∙◌, ap, subst, arith}
use Rattle.std.proofs.lemmas.List.{length_push, get_or_append_left, get_or_push}
use Rattle.std.proofs.lemmas.Option.{slice_get-get_or}
use Rattle.aig_parts.specs.declared.gate.Gate.{Gate}
use Rattle.aig_parts.specs.declared.raw.Raw.{Raw}
use Rattle.aig_parts.specs.Literal.{variable}
use Rattle.aig_base.specs.Grounded.{Level}
use Rattle.aig_base.specs.Grounded as by
use Rattle.aig_base.specs.Definition.{IsInOrder}
use Rattle.aig_base.specs.Levels.{AreLevels}
use Rattle.aig_base.specs.Sections.{IsGate}
use Rattle.aig_base.specs.Sound.{IsSound}
use Rattle.aig_base.specs.state.Descent.{level_above, AreFirstLevels}
use Rattle.aig_base.specs.state.LeastFaulty.{ReadsSmaller}
use Rattle.aig_base.proofs.circuits.Gates.{IsGate-of_gate, gate_of, same_gate, source-gate, level_in_range}
use Rattle.aig_base.proofs.circuits.InOrder.{gate_number}

module _ (raw : Raw) where
  -- the level of one more variable
  first_more : (levels : List ℕ) (n : ℕ) → ((m : ℕ) → Level raw (length levels) m → n ≡ m) → n ≤ length levels
      → AreFirstLevels raw levels → AreFirstLevels raw (levels ++ n ∷ [])
  first_more levels n is le first = record {
    each = λ v m lt known. elim (cases v lt) [
      | inl e ↦ new v e ∙ is m (subst (λ u. Level raw u m) e known)
      | inr below ↦ old v below ∙ first.each v m below known
    ];
    low = λ v lt. elim (cases v lt) [
      | inl e ↦ (let f = new v e in omega arith)
      | inr below ↦ (let f = old v below in let b = first.low v below in omega arith)
    ];
  }
    where
      cases : (v : ℕ) → v < length (levels ++ n ∷ []) → (v ≡ length levels) ⊎ (v < length levels)
      cases v lt = let size = length_push levels n in at_most v (length levels) (omega arith)
        where
          at_most : (v k : ℕ) → v < k + 1 → (v ≡ k) ⊎ (v < k)
          at_most v k lt = grind arith

      new : (v : ℕ) → v ≡ length levels → get_or (levels ++ n ∷ []) v 0 ≡ n
      new v e = get_or_push levels n 0 v (sym e)

      old : (v : ℕ) → v < length levels → get_or (levels ++ n ∷ []) v 0 ≡ get_or levels v 0
      old v lt = get_or_append_left levels (n ∷ []) 0 v lt

  -- a variable that is no gate
  pub first_other : (levels : List ℕ) → (IsGate raw (length levels) → ⊥) → AreFirstLevels raw levels
      → AreFirstLevels raw (levels ++ 0 ∷ [])
  first_other levels other first = first_more levels 0 (λ m known. zero m known refl) (omega arith) first
    where
      zero : {v : ℕ} (m : ℕ) → Level raw v m → v ≡ length levels → 0 ≡ m
      zero m (by.Level.source v s) e = refl
      zero m (by.Level.gate q g a b at l0 l1) e = absurd (other (subst (IsGate raw) e (IsGate-of_gate raw q g at)))

  -- a variable before all gates, where the definitions are in order
  pub first_source : (levels : List ℕ) → IsInOrder raw
      → length levels < 1 + length raw.inputs + length raw.latches → AreFirstLevels raw levels
      → AreFirstLevels raw (levels ++ 0 ∷ [])
  first_source levels order before first = first_other levels other first
    where
      other : IsGate raw (length levels) → ⊥
      other h =
          let (g, q, at, is) = gate_of raw (length levels) h in
          let number = gate_number raw order q g at in
          omega arith

  module _ (levels : List ℕ) (g : Gate) (found : (q : ℕ) × (slice_get raw.gates q ≡ Some g)
      × (variable g.lhs ≡ length levels)) (smaller : ReadsSmaller g) (first : AreFirstLevels raw levels) where
    side0 : variable g.rhs0 < length levels
    side0 = omega (arith, smaller.0, found.2)

    side1 : variable g.rhs1 < length levels
    side1 = omega (arith, smaller.1, found.2)

    pub first_low : level_above levels g ≤ length levels
    first_low =
        let a = first.low (variable g.rhs0) side0 in let b = first.low (variable g.rhs1) side1 in omega arith

    -- a gate that reads variables before it
    pub first_gate : IsSound raw → AreFirstLevels raw (levels ++ level_above levels g ∷ [])
    first_gate sound = first_more levels (level_above levels g) (λ m known. is m known refl) first_low first
      where
        is : {v : ℕ} (m : ℕ) → Level raw v m → v ≡ length levels → level_above levels g ≡ m
        is m (by.Level.source v s) e = absurd (source-gate raw sound v found.0 g found.1 s (e ∙ sym found.2))
        is m (by.Level.gate q h a b at l0 l1) e =
            let one : h ≡ g = same_gate raw sound q found.0 h g at found.1 (e ∙ sym found.2) in
            let e0 = first.each (variable g.rhs0) a side0
            (subst (λ (w : Gate). Level raw (variable w.rhs0) a) one l0) in
            let e1 = first.each (variable g.rhs1) b side1
            (subst (λ (w : Gate). Level raw (variable w.rhs1) b) one l1) in
            omega arith

  -- all variables
  pub first_all : (levels : List ℕ) → IsSound raw → length levels ≡ raw.max_var + 1 → AreFirstLevels raw levels
      → AreLevels raw levels
  first_all levels sound size first = record {
    size = size;
    each = λ v n known.
        let lt : v < length levels = let most = level_in_range raw sound known in omega arith in
        slice_get-get_or levels v 0 lt ∙ ap Some (first.each v n lt known);
  }
