-- What is said of a literal, as text.
use Rattle.std.proofs.Common.{◌≡◌, ℕ, ◌*◌, List, [], ◌∷◌, ◌++◌, codes, decimal, None, Some, slice_get, append_assoc}
use Rattle.std.proofs.Common.{refl, sym, ap, subst, ◌∙◌}
use Rattle.aig_parts.specs.Literal.{variable}
use Rattle.aig_parts.specs.declared.gate.Gate.{Gate}
use Rattle.aig_parts.specs.declared.latch.Latch.{Latch}
use Rattle.aig_parts.specs.declared.raw.Raw.{Raw}
use Rattle.aig_parts.specs.declared.ternary.Tern.{Tern}
use Rattle.aig_base.specs.Definition.{Defines, IsFree}
use Rattle.aig_base.specs.Value.{reset_value}
use Rattle.aig_base.specs.declared.circuit.definition.Definition.TheVariants as definition
use Rattle.aig_signals.specs.Lookup.{Means, alone}
use Rattle.aig_values.specs.Characters.{character}
use Rattle.aig_shell.specs.Defined.{IsDefinitionText, IsGateText, IsLiteralText, IsRewiredText, IsSide, gate_head}
use Rattle.aig_shell.specs.Defined.{gate_text, head_text, latch_text}

-- a text that grew three times
grown_thrice : (t0 t1 t2 t3 a b c : List ℕ) → t1 ≡ t0 ++ a → t2 ≡ t1 ++ b → t3 ≡ t2 ++ c → t3 ≡ t0 ++ (a ++ (b ++ c))
grown_thrice t0 t1 t2 t3 a b c e f g =
    g ∙ ap (λ (z : List ℕ). z ++ c) (f ∙ ap (λ (z : List ℕ). z ++ b) e ∙ append_assoc t0 a b)
    ∙ append_assoc t0 (a ++ b) c ∙ ap (λ (z : List ℕ). t0 ++ z) (append_assoc a b c)

-- a side that nothing defines
pub number_side : (raw : Raw) (l v n : ℕ) (old new : List ℕ) → v ≡ variable l → n ≡ l → IsFree raw v → new ≡ old ++ decimal n
    → (side : List ℕ) × IsSide raw l side × (new ≡ old ++ side)
number_side raw l v n old new e f free added =
    (decimal l, (None, subst (λ (u : ℕ). IsFree raw u) e free, refl), added ∙ ap (λ (k : ℕ). old ++ decimal k) f)

-- the line of a gate
pub gate_said : (raw : Raw) (name : List ℕ) (l rhs0 rhs1 : ℕ) (t0 t1 t2 t3 t4 t5 t6 : List ℕ) → t1 ≡ t0 ++ gate_head name l
    → t2 ≡ t1 ++ (decimal (2 * variable l) ++ codes " = ") → (side0 : List ℕ) × IsSide raw rhs0 side0 × (t3 ≡ t2 ++ side0)
    → t4 ≡ t3 ++ codes " and " → (side1 : List ℕ) × IsSide raw rhs1 side1 × (t5 ≡ t4 ++ side1) → t6 ≡ t5 ++ 10 ∷ []
    → (said : List ℕ) × IsGateText raw name l rhs0 rhs1 said × (t6 ≡ t0 ++ said)
gate_said raw name l rhs0 rhs1 t0 t1 t2 t3 t4 t5 t6 e1 e2 (side0, is0, e3) e4 (side1, is1, e5) e6 =
    let head = gate_head name l in
    let number = decimal (2 * variable l) ++ codes " = " in
    let rest = side0 ++ (codes " and " ++ (side1 ++ 10 ∷ [])) in
    let end = grown_thrice t3 t4 t5 t6 (codes " and ") side1 (10 ∷ []) e4 e5 e6 in
    let line = grown_thrice t1 t2 t3 t6 number side0 (codes " and " ++ (side1 ++ 10 ∷ [])) e2 e3 end in (
      head ++ gate_text l side0 side1,
      (side0, side1, is0, is1, refl),
      line ∙ ap (λ (z : List ℕ). z ++ (number ++ rest)) e1 ∙ append_assoc t0 head (number ++ rest)
          ∙ ap (λ (z : List ℕ). t0 ++ (head ++ z)) (append_assoc (decimal (2 * variable l)) (codes " = ") rest),
    )

-- what is said of a latch after its head
pub latch_said : (raw : Raw) (l : ℕ) (reset : Tern) (t0 t1 t2 t3 letter : List ℕ) → t1 ≡ t0 ++ codes ": latch, next "
    → (next : List ℕ) × IsSide raw l next × (t2 ≡ t1 ++ next) → letter ≡ character reset ∷ []
    → t3 ≡ t2 ++ (codes ", reset " ++ (letter ++ codes "\n"))
    → (next : List ℕ) × IsSide raw l next × (t3 ≡ t0 ++ latch_text next reset)
latch_said raw l reset t0 t1 t2 t3 letter e1 (next, is, e2) said e3 = (
  next,
  is,
  grown_thrice t0 t1 t2 t3 (codes ": latch, next ") next (codes ", reset " ++ character reset ∷ codes "\n") e1 e2
      (e3 ∙ ap (λ (z : List ℕ). t2 ++ (codes ", reset " ++ (z ++ codes "\n"))) said),
)

-- what is said of a literal
module _ (raw named : Raw) (latches : List Latch) (name : List ℕ) (l : ℕ) (old new : List ℕ) (same : named ≡ raw) where
  pub latch_line : (p : ℕ) (latch : Latch) (mid : List ℕ) → slice_get latches p ≡ Some latch → mid ≡ old ++ head_text name l
      → (next : List ℕ) × IsSide named latch.next next × (new ≡ mid ++ latch_text next (reset_value latch.reset))
      → (said : List ℕ) × IsDefinitionText raw latches name l (Some (definition.Latch p)) said × (new ≡ old ++ said)
  latch_line p latch mid at e (next, is, f) = (
    head_text name l ++ latch_text next (reset_value latch.reset),
    (latch, next, at, subst (λ (r : Raw). IsSide r latch.next next) same is, refl),
    f ∙ ap (λ (z : List ℕ). z ++ latch_text next (reset_value latch.reset)) e
        ∙ append_assoc old (head_text name l) (latch_text next (reset_value latch.reset)),
  )

  pub gate_line : (v p : ℕ) (g : Gate) → v ≡ variable l → Defines named v (definition.Gate p) → slice_get raw.gates p ≡ Some g
      → (said : List ℕ) × IsGateText named name l g.rhs0 g.rhs1 said × (new ≡ old ++ said)
      → (said : List ℕ) × IsLiteralText raw latches name l said × (new ≡ old ++ said)
  gate_line v p g e defines at (said, is, added) = (
    said,
    (
      Some (definition.Gate p),
      subst (λ (r : Raw). Defines r (variable l) (definition.Gate p)) same
          (subst (λ (u : ℕ). Defines named u (definition.Gate p)) e defines),
      (g, at, subst (λ (r : Raw). IsGateText r name l g.rhs0 g.rhs1 said) same is),
    ),
    added,
  )

  pub constant_line : (v : ℕ) → v ≡ variable l → IsFree named v → new ≡ old ++ (head_text name l ++ codes ": constant\n")
      → (said : List ℕ) × IsLiteralText raw latches name l said × (new ≡ old ++ said)
  constant_line v e free added = (
    head_text name l ++ codes ": constant\n",
    (
      None,
      subst (λ (r : Raw). IsFree r (variable l)) same (subst (λ (u : ℕ). IsFree named u) e free),
      refl,
    ),
    added,
  )

pub rewired_text : (raw named : Raw) (name side0 side1 : List ℕ) (l rhs0 rhs1 : ℕ) (old text said : List ℕ) → named ≡ raw
    → old ≡ [] → text ≡ old ++ said → Means raw name (alone l) → Means raw side0 (alone rhs0) → Means raw side1 (alone rhs1)
    → IsGateText named name l rhs0 rhs1 said → IsRewiredText raw name side0 side1 text
rewired_text raw named name side0 side1 l rhs0 rhs1 old text said same empty added means means0 means1 is = (
  l,
  rhs0,
  rhs1,
  means,
  means0,
  means1,
  subst (λ (t : List ℕ). IsGateText raw name l rhs0 rhs1 t) (sym (added ∙ ap (λ (t : List ℕ). t ++ said) empty))
      (subst (λ (r : Raw). IsGateText r name l rhs0 rhs1 said) same is),
)
