-- Whether a literal is the one of a latch or of a gate, by what defines its variable.
use Rattle.std.proofs.Common.{◌≡◌, ◌↔◌, ℕ, nat_eq, false, IsTrue, IfSome, IfNone, Option, Some, List, get_or}
use Rattle.std.proofs.Common.{slice_get, refl, sym, ap, ◌∙◌, subst, option_map}
use Rattle.std.proofs.lemmas.Bool.{false≢true, eqb-true}
use Rattle.std.proofs.lemmas.Bool.Decides.{Decides-eqb}
use Rattle.std.proofs.lemmas.Option.{slice_get-map, same_Some, get_or_from_slice_get}
use Rattle.aig_parts.specs.declared.gate.Gate.{Gate}
use Rattle.aig_parts.specs.declared.latch.Latch.{Latch}
use Rattle.aig_parts.specs.declared.raw.Raw.{Raw}
use Rattle.aig_base.specs.declared.circuit.definition.Definition.{Definition}
use Rattle.aig_base.specs.declared.circuit.definition.Definition.TheVariants as definition
use Rattle.aig_base.specs.Definition.{Defines, IsFree}
use Rattle.aig_parts.specs.Literal.{variable}
use Rattle.aig_base.specs.Sections.{IsLeftSide, IsLatchLiteral}
use Rattle.aig_base.specs.Sound.{IsSound}
use Rattle.aig_base.proofs.circuits.EntryPlaces.{gate_defines, latch_defines, left_side_defined, latch_literal_defined}
use Rattle.aig_base.proofs.lists.Positions.{Contains-from_slice_get}

module _ (raw : Raw) (sound : IsSound raw) (l v : ℕ) (d : Option Definition) (e : v ≡ variable l)
    (found : IfSome d (Defines raw v)) (none : IfNone d (IsFree raw v)) where
  found_here : IfSome d (Defines raw (variable l))
  found_here = subst (λ u. IfSome d (Defines raw u)) e found

  none_here : IfNone d (IsFree raw (variable l))
  none_here = subst (λ u. IfNone d (IsFree raw u)) e none

  same_position : (p q : ℕ) (x y : Definition) → x ≡ definition.Gate p → y ≡ definition.Gate q → x ≡ y → p ≡ q
  same_position p q x y a b e = cc

  same_place : (p q : ℕ) (x y : Definition) → x ≡ definition.Latch p → y ≡ definition.Latch q → x ≡ y → p ≡ q
  same_place p q x y a b e = cc

  gate_named : (q : ℕ) (g : Gate) → d ≡ Some (definition.Gate q) → slice_get raw.gates q ≡ Some g
      → IsTrue (nat_eq g.lhs l) ↔ IsLeftSide raw l
  gate_named q g is at = (
    λ h. subst (IsLeftSide raw) (eqb-true g.lhs l h)
        (Contains-from_slice_get _ q g.lhs (slice_get-map (λ g. g.lhs) raw.gates q ∙ ap (option_map (λ (g : Gate). g.lhs)) at)),
    λ h.
        let (k, x, stands, here, f) = gate_defines raw sound l h d found_here none_here in
        let r : q ≡ k = same_position q k (definition.Gate q) (definition.Gate k) refl refl
        (same_Some (definition.Gate q) (definition.Gate k) (sym is ∙ stands)) in
        let same : g ≡ x = same_Some g x (sym at ∙ ap (slice_get raw.gates) r ∙ here) in
        (Decides-eqb g.lhs l).1 (ap (λ (y : Gate). y.lhs) same ∙ f),
  )

  latch_named : (p : ℕ) (x : Latch) → d ≡ Some (definition.Latch p) → slice_get raw.latches p ≡ Some x
      → IsTrue (nat_eq x.lit l) ↔ IsLatchLiteral raw l
  latch_named p x is at = (
    λ h. subst (IsLatchLiteral raw) (eqb-true x.lit l h)
        (Contains-from_slice_get _ p x.lit (slice_get-map (λ x. x.lit) raw.latches p ∙ ap (option_map (λ (x : Latch). x.lit)) at)),
    λ h.
        let (k, y, stands, here, f) = latch_defines raw sound l h d found_here none_here in
        let r : p ≡ k = same_place p k (definition.Latch p) (definition.Latch k) refl refl
        (same_Some (definition.Latch p) (definition.Latch k) (sym is ∙ stands)) in
        let same : x ≡ y = same_Some x y (sym at ∙ ap (slice_get raw.latches) r ∙ here) in
        (Decides-eqb x.lit l).1 (ap (λ (z : Latch). z.lit) same ∙ f),
  )

  pub gate_not_named : ((q : ℕ) → d ≡ Some (definition.Gate q) → ⊥) → IsTrue false ↔ IsLeftSide raw l
  gate_not_named other = (
    λ h. absurd (false≢true h),
    λ h. absurd (left_side_defined raw sound l v h e d found none other),
  )

  pub latch_not_named : ((p : ℕ) → d ≡ Some (definition.Latch p) → ⊥) → IsTrue false ↔ IsLatchLiteral raw l
  latch_not_named other = (
    λ h. absurd (false≢true h),
    λ h. absurd (latch_literal_defined raw sound l v h e d found none other),
  )

  pub gate_answer : (q n m : ℕ) (x : Gate) (gates : List Gate) → gates ≡ raw.gates → d ≡ Some (definition.Gate q)
      → n ≡ (get_or gates q x).lhs → m ≡ l → IsTrue (nat_eq n m) ↔ IsLeftSide raw l
  gate_answer q n m x gates same is a b =
      let (g, at, k) = subst (λ (o : Option Definition). IfSome o (Defines raw v)) is found in
      let here : get_or gates q x ≡ g = ap (λ (gs : List Gate). get_or gs q x) same ∙ get_or_from_slice_get raw.gates q g x at in
      let w : n ≡ g.lhs = a ∙ ap (λ (y : Gate). y.lhs) here in
      rw (w, b) (gate_named q g is at)

  pub latch_answer : (p n m : ℕ) (x : Latch) (latches : List Latch) → latches ≡ raw.latches
      → d ≡ Some (definition.Latch p) → n ≡ (get_or latches p x).lit → m ≡ l → IsTrue (nat_eq n m) ↔ IsLatchLiteral raw l
  latch_answer p n m x latches same is a b =
      let (y, at, k) = subst (λ (o : Option Definition). IfSome o (Defines raw v)) is found in
      let here : get_or latches p x ≡ y = ap (λ (ys : List Latch). get_or ys p x) same ∙ get_or_from_slice_get raw.latches p y x at in
      let w : n ≡ y.lit = a ∙ ap (λ (z : Latch). z.lit) here in
      rw (w, b) (latch_named p y is at)
