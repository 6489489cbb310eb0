-- Where the definitions stand, and that no variable stands at two places of a sound circuit.
use Rattle.std.proofs.Common.{◌≡◌, ℕ, ◌+◌, ◌<◌, ◌⊎◌, inl, inr, List, ◌++◌, length, map, Option, Some, None, IfSome}
use Rattle.std.proofs.Common.{IfNone, option_map, refl, ap, subst, ◌∙◌, arith, slice_get}
use Rattle.std.proofs.lemmas.List.{length-append, length-map}
use Rattle.std.proofs.lemmas.Option.{slice_get_within, slice_get-map}
use Rattle.aig_base.specs.declared.circuit.definition.Definition.{Definition}
use Rattle.aig_base.specs.declared.circuit.definition.Definition.TheVariants as definition
use Rattle.aig_parts.specs.declared.gate.Gate.{Gate}
use Rattle.aig_parts.specs.declared.latch.Latch.{Latch}
use Rattle.aig_parts.specs.declared.raw.Raw.{Raw}
use Rattle.aig_base.specs.Definition.{Defines, IsFree}
use Rattle.aig_parts.specs.Literal.{variable}
use Rattle.aig_base.specs.Sections.{definitions, IsLatchLiteral, IsLeftSide}
use Rattle.aig_base.specs.Sound.{IsDefinition, IsSound}
use Rattle.aig_base.proofs.lists.Gets.{slice_get_left, slice_get_right, Contains-from_get, get_from_Contains, All-at}
use Rattle.aig_base.proofs.checks.Marking.{slice_get_unmap}

module _ (raw : Raw) where
  lits : List ℕ
  lits = map (λ x. x.lit) raw.latches

  sides : List ℕ
  sides = map (λ g. g.lhs) raw.gates

  input_place : (p l : ℕ) → slice_get raw.inputs p ≡ Some l → slice_get (definitions raw) p ≡ Some l
  unfolding lits sides
  input_place p l at = slice_get_left (raw.inputs ++ lits) sides p l (slice_get_left raw.inputs lits p l at)

  pub latch_place : (p : ℕ) (x : Latch) → slice_get raw.latches p ≡ Some x → slice_get (definitions raw)
      (length raw.inputs + p) ≡ Some x.lit
  unfolding lits sides
  latch_place p x at =
      slice_get_left (raw.inputs ++ lits) sides (length raw.inputs + p) x.lit
      (slice_get_right raw.inputs lits p ∙ slice_get-map (λ (y : Latch). y.lit) raw.latches p
      ∙ ap (option_map (λ (y : Latch). y.lit)) at)

  pub gate_place : (q : ℕ) (g : Gate) → slice_get raw.gates q ≡ Some g
      → slice_get (definitions raw) (length raw.inputs + length raw.latches + q) ≡ Some g.lhs
  unfolding lits sides
  gate_place q g at =
      let e : length raw.inputs + length raw.latches + q ≡ length (raw.inputs ++ lits) + q =
      omega (arith, length-append raw.inputs lits, length-map raw.latches (λ (y : Latch). y.lit)) in
      ap (slice_get (definitions raw)) e
      ∙ slice_get_right (raw.inputs ++ lits) sides q ∙ slice_get-map (λ (y : Gate). y.lhs) raw.gates q
      ∙ ap (option_map (λ (y : Gate). y.lhs)) at

  module _ (s : IsSound raw) where
    of_variable : (i l : ℕ) → slice_get (definitions raw) i ≡ Some l → slice_get (map variable (definitions raw)) i
        ≡ Some (variable l)
    of_variable i l at = slice_get-map variable (definitions raw) i ∙ ap (option_map variable) at

    -- one variable is at one place
    pub same_place : (i j l m : ℕ) → slice_get (definitions raw) i ≡ Some l → slice_get (definitions raw) j ≡ Some m
        → variable l ≡ variable m → i ≡ j
    same_place i j l m a b e =
        let a' : slice_get (map variable (definitions raw)) i ≡ Some (variable m) = of_variable i l a ∙ ap Some e in
        elim (cases i j) [
          | inl less ↦ absurd (s.once (variable m) (i, j, less, a', of_variable j m b))
          | inr r ↦ elim r [
            | inl same ↦ same
            | inr more ↦ absurd (s.once (variable m)
                (j, i, more, of_variable j m b, a'))
          ]
        ]
      where
        cases : (i j : ℕ) → (i < j) ⊎ ((i ≡ j) ⊎ (j < i))
        cases i j = grind arith

    -- two definitions of one variable are one literal
    pub same_literal : (i j l m : ℕ) → slice_get (definitions raw) i ≡ Some l → slice_get (definitions raw) j ≡ Some m
        → variable l ≡ variable m → l ≡ m
    same_literal i j l m a b e =
        let p : IsDefinition l = All-at IsDefinition (definitions raw) i l s.definitions a in
        let q : IsDefinition m = All-at IsDefinition (definitions raw) j m s.definitions b in
        omega (arith, p.0, q.0)

    -- what defines the variable of a left side is that gate
    pub gate_defines : (gate : ℕ) → IsLeftSide raw gate → (d : Option Definition)
        → IfSome d (Defines raw (variable gate)) → IfNone d (IsFree raw (variable gate))
        → (q : ℕ) × (g : Gate) × (d ≡ Some (definition.Gate q)) × (slice_get raw.gates q ≡ Some g) × (g.lhs ≡ gate)
    gate_defines gate is d found none =
        let (k, at) = get_from_Contains (map (λ (y : Gate). y.lhs) raw.gates) gate is in
        let (g, here, e) = slice_get_unmap (λ (y : Gate). y.lhs) raw.gates k gate at in
        let place = subst (λ l. slice_get (definitions raw) (length raw.inputs + length raw.latches + k)
        ≡ Some l) e (gate_place k g here) in
        of k place d found none
      where
        of : (k : ℕ) → slice_get (definitions raw) (length raw.inputs + length raw.latches + k) ≡ Some gate
            → (d : Option Definition) → IfSome d (Defines raw (variable gate)) → IfNone d (IsFree raw (variable gate))
            → (q : ℕ) × (g : Gate) × (d ≡ Some (definition.Gate q)) × (slice_get raw.gates q ≡ Some g) × (g.lhs ≡ gate)
        of k place None found none = absurd (none (Contains-from_get (map variable (definitions raw)) _ (variable gate)
            (of_variable _ gate place)))
        of k place (Some (definition.Input p)) (l, at, e) none =
            let f : p ≡ length raw.inputs + length raw.latches + k = same_place p _ l gate
            (input_place p l at) place e in
            absurd (omega (arith, slice_get_within raw.inputs p l at))
        of k place (Some (definition.Latch p)) (x, at, e) none =
            let f : length raw.inputs + p ≡ length raw.inputs + length raw.latches + k = same_place _ _ x.lit gate
            (latch_place p x at) place e in
            absurd (omega (arith, slice_get_within raw.latches p x at))
        of k place (Some (definition.Gate q)) (g, at, e) none = (
          q,
          g,
          refl,
          at,
          same_literal _ _ g.lhs gate
              (gate_place q g at) place e,
        )

    -- what defines the variable of a latch's literal is that latch
    pub latch_defines : (lit : ℕ) → IsLatchLiteral raw lit → (d : Option Definition)
        → IfSome d (Defines raw (variable lit)) → IfNone d (IsFree raw (variable lit))
        → (p : ℕ) × (x : Latch) × (d ≡ Some (definition.Latch p)) × (slice_get raw.latches p ≡ Some x) × (x.lit ≡ lit)
    latch_defines lit is d found none =
        let (k, at) = get_from_Contains (map (λ (y : Latch). y.lit) raw.latches) lit is in
        let (x, here, e) = slice_get_unmap (λ (y : Latch). y.lit) raw.latches k lit at in
        let place = subst (λ l. slice_get (definitions raw) (length raw.inputs + k)
        ≡ Some l) e (latch_place k x here) in
        of k (slice_get_within raw.latches k x here) place d found none
      where
        of : (k : ℕ) → k < length raw.latches → slice_get (definitions raw) (length raw.inputs + k) ≡ Some lit
            → (d : Option Definition) → IfSome d (Defines raw (variable lit)) → IfNone d (IsFree raw (variable lit))
            → (p : ℕ) × (x : Latch) × (d ≡ Some (definition.Latch p)) × (slice_get raw.latches p ≡ Some x) × (x.lit
            ≡ lit)
        of k within place None found none = absurd (none (Contains-from_get (map variable (definitions raw)) _
            (variable lit) (of_variable _ lit place)))
        of k within place (Some (definition.Input p)) (l, at, e) none =
            let f : p ≡ length raw.inputs + k = same_place p _ l lit (input_place p l at) place e in
            absurd (omega (arith, slice_get_within raw.inputs p l at))
        of k within place (Some (definition.Gate q)) (g, at, e) none =
            let f : length raw.inputs + length raw.latches + q ≡ length raw.inputs + k = same_place _ _ g.lhs lit
            (gate_place q g at) place e in
            absurd (omega arith)
        of k within place (Some (definition.Latch p)) (x, at, e) none = (
          p,
          x,
          refl,
          at,
          same_literal _ _ x.lit lit
              (latch_place p x at) place e,
        )

    -- two gates of one left side, or two latches of one literal, are at one position
    pub same_gate : (q k : ℕ) (g h : Gate) → slice_get raw.gates q ≡ Some g → slice_get raw.gates k ≡ Some h → g.lhs
        ≡ h.lhs → q ≡ k
    same_gate q k g h a b e =
        let f : length raw.inputs + length raw.latches + q ≡ length raw.inputs + length raw.latches + k =
        same_place _ _ g.lhs h.lhs (gate_place q g a) (gate_place k h b) (ap variable e) in
        omega arith

    pub same_latch : (p k : ℕ) (x y : Latch) → slice_get raw.latches p ≡ Some x → slice_get raw.latches k ≡ Some y
        → x.lit ≡ y.lit → p ≡ k
    same_latch p k x y a b e =
        let f : length raw.inputs + p ≡ length raw.inputs + k =
        same_place _ _ x.lit y.lit (latch_place p x a) (latch_place k y b) (ap variable e) in
        omega arith

    -- a left side, and a latch's literal, has a definition of its kind
    pub left_side_defined : (gate v : ℕ) → IsLeftSide raw gate → v ≡ variable gate → (d : Option Definition)
        → IfSome d (Defines raw v) → IfNone d (IsFree raw v)
        → ((q : ℕ) → d ≡ Some (definition.Gate q) → ⊥) → ⊥
    left_side_defined gate v is e d found none other =
        let r = gate_defines gate is d (subst (λ u. IfSome d (Defines raw u)) e found) (subst (λ u. IfNone d
        (IsFree raw u)) e none) in
        other r.0 r.2

    pub latch_literal_defined : (lit v : ℕ) → IsLatchLiteral raw lit → v ≡ variable lit → (d : Option Definition)
        → IfSome d (Defines raw v) → IfNone d (IsFree raw v)
        → ((p : ℕ) → d ≡ Some (definition.Latch p) → ⊥) → ⊥
    latch_literal_defined lit v is e d found none other =
        let r = latch_defines lit is d (subst (λ u. IfSome d (Defines raw u)) e found) (subst (λ u. IfNone d
        (IsFree raw u)) e none) in
        other r.0 r.2
