-- The levels of a circuit with one more gate.
use Rattle.std.proofs.Common.{◌≡◌, inl, inr, ℕ, ◌+◌, ◌<◌, ◌≤◌, ◌^◌, max, List, [], ◌∷◌, ◌++◌, length, get_or, Some}
use Rattle.std.proofs.Common.{slice_get, sym, ap, subst, ◌∙◌, arith}
use Rattle.std.proofs.lemmas.List.{length_push}
use Rattle.std.proofs.lemmas.Option.{get_or_from_slice_get, same_Some}
use Rattle.aig_parts.specs.declared.gate.Gate.{Gate}
use Rattle.aig_parts.specs.declared.raw.Raw.{Raw}
use Rattle.aig_base.specs.Changes.{next_gate, with_appended_gate}
use Rattle.aig_base.specs.Circuit.{IsCircuit}
use Rattle.aig_base.specs.state.Descent.{level_above}
use Rattle.aig_parts.specs.Formed.{limit}
use Rattle.aig_base.specs.Grounded as by
use Rattle.aig_base.specs.Grounded.{Level}
use Rattle.aig_base.specs.Levels.{AreLevels}
use Rattle.aig_parts.specs.Literal.{variable}
use Rattle.aig_base.specs.Sections.{IsDefined}
use Rattle.aig_base.proofs.growth.Appended.{gate_cases, new_variable, source_old}
use Rattle.aig_base.proofs.circuits.Circuits.{rhs0_defined, rhs1_defined}
use Rattle.aig_base.proofs.circuits.Defined.{Grounded-of_defined}
use Rattle.aig_base.proofs.lists.Gets.{slice_get_left, slice_get_last}
use Rattle.aig_base.proofs.levels.LevelBound.{level_bound}
use Rattle.aig_base.proofs.levels.OneLevel.{level_of}

module _ (raw : Raw) (r0 r1 : ℕ) (c : IsCircuit raw) (d0 : IsDefined raw (variable r0)) (d1 : IsDefined raw
    (variable r1))
    (levels : List ℕ) (are : AreLevels raw levels) where
  abbrev above : ℕ
  above = level_above levels (next_gate raw r0 r1)

  -- the list has the level of what is defined
  side_at : (v : ℕ) → IsDefined raw v → Level raw v (get_or levels v 0)
  side_at v d =
      let (n, level) = level_of (Grounded-of_defined raw c.acyclic v d) in
      subst (Level raw v) (sym (get_or_from_slice_get levels v n 0 (are.each v n level))) level

  pub level_fits : level_above levels (next_gate raw r0 r1) < 2 ^ 32
  level_fits =
      let a = level_bound raw c.sound (side_at (variable r0) d0) in
      let b = level_bound raw c.sound (side_at (variable r1) d1) in
      bounded (get_or levels (variable r0) 0) (get_or levels (variable r1) 0) raw.max_var a b c.formed.counts.max_var
    where
      bounded : (x y m : ℕ) → x ≤ m → y ≤ m → m ≤ limit → max x y + 1 < 2 ^ 32
      bounded x y m p q r = omega arith

  -- a variable that was defined has in the longer list the level that it had
  same_at : (v n : ℕ) → IsDefined raw v → slice_get (levels ++ above ∷ []) v ≡ Some n → Level raw v n
  same_at v n d at =
      let (m, level) = level_of (Grounded-of_defined raw c.acyclic v d) in
      let e : m ≡ n = same_Some m n (sym (slice_get_left levels (above ∷ []) v m (are.each v m level)) ∙ at) in
      subst (Level raw v) e level

  level_at : {v n : ℕ} → Level (with_appended_gate raw r0 r1) v n → slice_get (levels ++ above ∷ []) v ≡ Some n
  level_at (by.Level.source v h) =
      slice_get_left levels (above ∷ []) v 0 (are.each v 0 (by.Level.source v (source_old raw r0 r1 v h)))
  level_at (by.Level.gate q g a b at l0 l1) =
      let at0 = level_at l0 in
      let at1 = level_at l1 in
      elim (gate_cases raw r0 r1 q g at) [
        | inl here ↦
            (let level = by.Level.gate q g a b here (same_at (variable g.rhs0) a
            (rhs0_defined raw c.sound q g here) at0)
            (same_at (variable g.rhs1) b (rhs1_defined raw c.sound q g here) at1) in
            slice_get_left levels (above ∷ []) (variable g.lhs) (max a b + 1) (are.each (variable g.lhs)
            (max a b + 1) level))
        | inr e ↦
            (let e0 : slice_get (levels ++ above ∷ []) (variable r0) ≡ Some a =
            subst (λ (x : Gate). slice_get (levels ++ above ∷ []) (variable x.rhs0) ≡ Some a) (sym e.1) at0 in
            let e1 : slice_get (levels ++ above ∷ []) (variable r1) ≡ Some b =
            subst (λ (x : Gate). slice_get (levels ++ above ∷ []) (variable x.rhs1) ≡ Some b) (sym e.1) at1 in
            let i0 : get_or levels (variable r0) 0 ≡ a = read (variable r0) a (same_at (variable r0) a d0 e0) in
            let i1 : get_or levels (variable r1) 0 ≡ b = read (variable r1) b (same_at (variable r1) b d1 e1) in
            let place : variable g.lhs ≡ length levels =
            ap (λ (x : Gate). variable x.lhs) (sym e.1) ∙ new_variable raw r0 r1 ∙ sym are.size in
            ap (slice_get (levels ++ above ∷ [])) place ∙ slice_get_last levels above
            ∙ ap Some (ap (λ x. max x (get_or levels (variable r1) 0) + 1) i0 ∙ ap (λ y. max a y + 1) i1))
      ]
    where
      read : (v n : ℕ) → Level raw v n → get_or levels v 0 ≡ n
      read v n level = get_or_from_slice_get levels v n 0 (are.each v n level)

  pub more_levels : AreLevels (with_appended_gate raw r0 r1) (levels ++ level_above levels (next_gate raw r0 r1) ∷ [])
  more_levels = record {
    size = omega (arith, length_push levels above, are.size);
    each = λ v n level. level_at level;
  }
