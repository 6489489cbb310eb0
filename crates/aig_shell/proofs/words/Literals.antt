-- Which literals are those of inputs and latches, by what defines their variables.
use Rattle.std.proofs.Common.{◌≡◌, ℕ, ◌+◌, ◌%◌, ◌++◌, length, List, map, Option, Some, None, IfSome, IfNone, slice_get}
use Rattle.std.proofs.Common.{option_map, Bool, true, false, not, IsTrue, ◌↔◌, refl, sym, ap, subst, ◌∙◌, arith}
use Rattle.std.proofs.lemmas.Option.{slice_get_within, slice_get-map}
use Rattle.std.proofs.lemmas.Bool.{false≢true}
use Rattle.aig_parts.specs.declared.gate.Gate.{Gate}
use Rattle.aig_parts.specs.declared.latch.Latch.{Latch}
use Rattle.aig_parts.specs.declared.raw.Raw.{Raw}
use Rattle.aig_parts.specs.Literal.{variable}
use Rattle.aig_base.specs.declared.circuit.definition.Definition.{Definition}
use Rattle.aig_base.specs.declared.circuit.definition.Definition.TheVariants as definition
use Rattle.aig_base.specs.Definition.{Defines, IsFree}
use Rattle.aig_base.specs.Sections.{definitions, IsLatchLiteral}
use Rattle.aig_base.specs.Sound.{IsDefinition, IsSound}
use Rattle.aig_base.proofs.circuits.EntryPlaces.{same_place, same_literal, latch_place, gate_place, latch_defines}
use Rattle.aig_base.proofs.lists.Gets.{slice_get_left, Contains-from_get, All-at}
use Rattle.aig_base.proofs.lists.Positions.{Contains-from_slice_get}

module _ (raw : Raw) (s : IsSound raw) where
  input_place : (p l : ℕ) → slice_get raw.inputs p ≡ Some l → slice_get (definitions raw) p ≡ Some l
  input_place p l at =
      slice_get_left (raw.inputs ++ map (λ (x : Latch). x.lit) raw.latches) (map (λ (g : Gate). g.lhs) raw.gates) p l
      (slice_get_left raw.inputs (map (λ (x : Latch). x.lit) raw.latches) p l at)

  -- an even literal of the variable that an input defines is that input
  pub input_found : (l v p : ℕ) → v ≡ variable l → ((l % 2 ≡ 1) → ⊥) → Defines raw v (definition.Input p)
      → slice_get raw.inputs p ≡ Some l
  input_found l v p e even (m, at, is) =
      let d : IsDefinition m = All-at IsDefinition (definitions raw) p m s.definitions (input_place p m at) in
      let same : m ≡ l = grind (arith, d.0, is, e, even) in
      at ∙ ap Some same

  -- what defines the variable of an input's literal is that input, and the literal is even
  pub input_defines : (l v k : ℕ) → slice_get raw.inputs k ≡ Some l → v ≡ variable l → (d : Option Definition)
      → IfSome d (Defines raw v) → IfNone d (IsFree raw v) → (d ≡ Some (definition.Input k)) × (l % 2 ≡ 0)
  input_defines l v k at e d found none =
      let place = input_place k l at in
      let given : IsDefinition l = All-at IsDefinition (definitions raw) k l s.definitions place in
      (of d (subst (λ u. IfSome d (Defines raw u)) e found) (subst (λ u. IfNone d (IsFree raw u)) e none), given.0)
    where
      of : (d : Option Definition) → IfSome d (Defines raw (variable l)) → IfNone d (IsFree raw (variable l))
          → d ≡ Some (definition.Input k)
      of None found none = absurd (none (Contains-from_get (map variable (definitions raw)) k (variable l)
          (slice_get-map variable (definitions raw) k ∙ ap (option_map variable) (input_place k l at))))
      of (Some (definition.Input p)) (m, here, is) none =
          ap (λ q. Some (definition.Input q)) (same_place raw s p k m l (input_place p m here) (input_place k l at) is)
      of (Some (definition.Latch p)) (x, here, is) none =
          let f : length raw.inputs + p ≡ k = same_place raw s _ k x.lit l (latch_place raw p x here) (input_place k l at) is in
          absurd (omega (arith, f, slice_get_within raw.inputs k l at))
      of (Some (definition.Gate q)) (g, here, is) none =
          let f : length raw.inputs + length raw.latches + q ≡ k =
          same_place raw s _ k g.lhs l (gate_place raw q g here) (input_place k l at) is in
          absurd (omega (arith, f, slice_get_within raw.inputs k l at))

  pub no_input : (l v : ℕ) → v ≡ variable l → (d : Option Definition) → IfSome d (Defines raw v) → IfNone d (IsFree raw v)
      → ((p : ℕ) → d ≡ Some (definition.Input p) → l % 2 ≡ 1) → (k : ℕ) → slice_get raw.inputs k ≡ Some l → ⊥
  no_input l v e d found none odd k at =
      let r = input_defines l v k at e d found none in
      let o : l % 2 ≡ 1 = odd k r.0 in
      omega (arith, r.1, o)

  pub no_input_other : (l v : ℕ) → v ≡ variable l → (d : Option Definition) → IfSome d (Defines raw v) → IfNone d (IsFree raw v)
      → ((p : ℕ) → d ≡ Some (definition.Input p) → ⊥) → (k : ℕ) → slice_get raw.inputs k ≡ Some l → ⊥
  no_input_other l v e d found none other k at = other k ((input_defines l v k at e d found none).0)

  pub no_input_odd : (l v : ℕ) → v ≡ variable l → (d : Option Definition) → IfSome d (Defines raw v) → IfNone d (IsFree raw v)
      → l % 2 ≡ 1 → (k : ℕ) → slice_get raw.inputs k ≡ Some l → ⊥
  no_input_odd l v e d found none odd k at = no_input l v e d found none (λ p is. odd) k at

  pub input_here : (l v : ℕ) → v ≡ variable l → (d : Option Definition) → IfSome d (Defines raw v) → (p : ℕ)
      → d ≡ Some (definition.Input p) → (l % 2 ≡ 1 → ⊥) → slice_get raw.inputs p ≡ Some l
  input_here l v e d found p is even =
      input_found l v p e even (subst (λ (o : Option Definition). IfSome o (Defines raw v)) is found)

  -- an even literal of the variable that a latch defines is that latch's
  pub latch_found : (l v p : ℕ) → v ≡ variable l → ((l % 2 ≡ 1) → ⊥) → Defines raw v (definition.Latch p) → IsLatchLiteral raw l
  latch_found l v p e even (x, at, is) =
      let d : IsDefinition x.lit =
      All-at IsDefinition (definitions raw) (length raw.inputs + p) x.lit s.definitions (latch_place raw p x at) in
      let same : x.lit ≡ l = grind (arith, d.0, is, e, even) in
      subst (IsLatchLiteral raw) same
      (Contains-from_slice_get _ p x.lit (slice_get-map (λ (y : Latch). y.lit) raw.latches p ∙ ap (option_map (λ (y : Latch). y.lit)) at))

  pub no_latch : (l v : ℕ) → v ≡ variable l → (d : Option Definition) → IfSome d (Defines raw v) → IfNone d (IsFree raw v)
      → ((p : ℕ) → d ≡ Some (definition.Latch p) → l % 2 ≡ 1) → IsLatchLiteral raw l → ⊥
  no_latch l v e d found none odd is =
      let (p, x, k, at, same) = latch_defines raw s l is d (subst (λ u. IfSome d (Defines raw u)) e found)
      (subst (λ u. IfNone d (IsFree raw u)) e none) in
      let given : IsDefinition x.lit =
      All-at IsDefinition (definitions raw) (length raw.inputs + p) x.lit s.definitions (latch_place raw p x at) in
      let o : l % 2 ≡ 1 = odd p k in
      omega (arith, given.0, o, same)

  pub latch_other : (l v : ℕ) → v ≡ variable l → (d : Option Definition) → IfSome d (Defines raw v) → IfNone d (IsFree raw v)
      → ((p : ℕ) → d ≡ Some (definition.Latch p) → ⊥) → IsTrue false ↔ IsLatchLiteral raw l
  latch_other l v e d found none other =
      (λ h. absurd (false≢true h), λ is. absurd (no_latch l v e d found none (λ p k. absurd (other p k)) is))

  pub latch_here : (l v : ℕ) → v ≡ variable l → (d : Option Definition) → IfSome d (Defines raw v) → IfNone d (IsFree raw v)
      → (p : ℕ) → d ≡ Some (definition.Latch p) → (odd : Bool) → (IsTrue odd ↔ (l % 2 ≡ 1)) → IsTrue (not odd) ↔ IsLatchLiteral raw l
  latch_here l v e d found none p is true r = (
    λ h. absurd (false≢true h),
    λ h. absurd (no_latch l v e d found none (λ q k. r.0 refl) h),
  )
  latch_here l v e d found none p is false r = (
    λ h. latch_found l v p e (λ odd. false≢true (r.1 odd)) (subst (λ (o : Option Definition). IfSome o (Defines raw v)) is found),
    λ h. refl,
  )
