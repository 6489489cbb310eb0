-- A literal is defined at one place.
use Rattle.std.proofs.Common.{◌≡◌, ◌⊎◌, inl, inr, ℕ, ◌+◌, ◌<◌, ◌++◌, length, map, Some, slice_get, All, refl, ◌∙◌, ap}
use Rattle.std.proofs.Common.{arith, option_map, length-append}
use Rattle.std.proofs.lemmas.Option.{slice_get-map, slice_get_within}
use Rattle.std.proofs.lemmas.List.{length-map}
use Rattle.std.proofs.lemmas.List.Elements.{All-contains}
use Rattle.aig_parts.specs.declared.gate.Gate.{Gate}
use Rattle.aig_parts.specs.declared.latch.Latch.{Latch}
use Rattle.aig_parts.specs.Literal.{variable, IsNegated}
use Rattle.aig_parts.specs.declared.raw.Raw.{Raw}
use Rattle.aig_base.specs.Sections.{definitions}
use Rattle.aig_base.specs.Sound.{IsSound, IsDefinition}
use Rattle.aig_base.proofs.lists.Positions.{slice_get_left, slice_get_right, Contains-from_slice_get}

-- which case of the value relation a literal falls under
pub data Place : Type 0 where
  constant : Place
  input : ℕ → Place
  latch : ℕ → Place
  gate : ℕ → Place
  odd : Place

abbrev pub At : Raw → Place → ℕ → Type 0
At raw constant l = l < 2
At raw (input p) l = slice_get raw.inputs p ≡ Some l
At raw (latch p) l = (x : Latch) × (slice_get raw.latches p ≡ Some x) × (x.lit ≡ l)
At raw (gate q) l = (g : Gate) × (slice_get raw.gates q ≡ Some g) × (g.lhs ≡ l)
At raw odd l = (1 < l) × IsNegated l

-- the place in the list of definitions
pub place_index : Raw → Place → ℕ
place_index raw constant = 0
place_index raw (input p) = p
place_index raw (latch p) = length raw.inputs + p
place_index raw (gate q) = length (raw.inputs ++ map (λ x. x.lit) raw.latches) + q
place_index raw odd = 0

abbrev pub IsSection : Place → Type 0
IsSection constant = ⊥
IsSection (input p) = Unit {0}
IsSection (latch p) = Unit {0}
IsSection (gate p) = Unit {0}
IsSection odd = ⊥

-- a definition stands in the list of definitions
stands : (raw : Raw) (d : Place) (l : ℕ) → IsSection d → At raw d l
    → slice_get (definitions raw) (place_index raw d) ≡ Some l
unfolding place_index
stands raw constant l h at = absurd h
stands raw (input p) l h at = slice_get_left _ _ p l (slice_get_left raw.inputs _ p l at)
stands raw (latch p) l h (x, at, is) =
    slice_get_left _ _ (length raw.inputs + p) l
    (slice_get_right raw.inputs _ p l
    (slice_get-map (λ x. x.lit) raw.latches p ∙ ap (option_map (λ x. x.lit)) at ∙ ap Some is))
stands raw (gate q) l h (g, at, is) =
    slice_get_right (raw.inputs ++ map (λ x. x.lit) raw.latches) _ q l
    (slice_get-map (λ g. g.lhs) raw.gates q ∙ ap (option_map (λ g. g.lhs)) at ∙ ap Some is)
stands raw odd l h at = absurd h

-- a definition is even and positive
pub IsDefinition-of_definitions : (raw : Raw) → All IsDefinition (definitions raw) → (d : Place) (l : ℕ)
    → IsSection d → At raw d l → IsDefinition l
IsDefinition-of_definitions raw defs d l h at =
    All-contains IsDefinition (definitions raw) l defs
    (Contains-from_slice_get (definitions raw) (place_index raw d) l (stands raw d l h at))

pub IsDefinition-of_place : (raw : Raw) → IsSound raw → (d : Place) (l : ℕ) → IsSection d → At raw d l
    → IsDefinition l
IsDefinition-of_place raw s = IsDefinition-of_definitions raw s.definitions

trichotomy : (i j : ℕ) → (i < j) ⊎ ((i ≡ j) ⊎ (j < i))
trichotomy i j = grind arith

same_index : (raw : Raw) → IsSound raw → (d e : Place) (l : ℕ) → IsSection d → IsSection e → At raw d l
    → At raw e l → place_index raw d ≡ place_index raw e
same_index raw s d e l hd he p q =
    let at : (k : Place) → IsSection k → At raw k l
    → slice_get (map variable (definitions raw)) (place_index raw k) ≡ Some (variable l)
    = λ k h a. slice_get-map variable (definitions raw) (place_index raw k)
    ∙ ap (option_map variable) (stands raw k l h a) in
    elim (trichotomy (place_index raw d) (place_index raw e)) [
      | inl lt ↦ absurd (s.once (variable l) (place_index raw d, place_index raw e, lt, at d hd p, at e he q))
      | inr o ↦ elim o [
        | inl eq ↦ eq
        | inr gt ↦ absurd (s.once (variable l) (place_index raw e, place_index raw d, gt, at e he q, at d hd p))
      ]
    ]

section_apart : (raw : Raw) → IsSound raw → (d : Place) (l : ℕ) → IsSection d → At raw d l
    → ¬ (l < 2) × ¬ ((1 < l) × IsNegated l)
section_apart raw s d l h at =
    let e : IsDefinition l = IsDefinition-of_place raw s d l h at in
    (λ k. omega arith, λ k. omega arith)

input-latch : (raw : Raw) → IsSound raw → (i j l : ℕ) → At raw (input i) l → At raw (latch j) l → ⊥
unfolding place_index
input-latch raw s i j l p q =
    let e = same_index raw s (input i) (latch j) l tt tt p q in let w = slice_get_within raw.inputs i l p in omega arith

input-gate : (raw : Raw) → IsSound raw → (i j l : ℕ) → At raw (input i) l → At raw (gate j) l → ⊥
unfolding place_index
input-gate raw s i j l p q =
    let e = same_index raw s (input i) (gate j) l tt tt p q in let w = slice_get_within raw.inputs i l p in
    omega (arith, length-append raw.inputs (map (λ x. x.lit) raw.latches))

latch-gate : (raw : Raw) → IsSound raw → (i j l : ℕ) → At raw (latch i) l → At raw (gate j) l → ⊥
unfolding place_index
latch-gate raw s i j l p q =
    let e = same_index raw s (latch i) (gate j) l tt tt p q in let w = slice_get_within raw.latches i p.0 p.1 in
    omega (arith, length-append raw.inputs (map (λ x. x.lit) raw.latches), length-map raw.latches (λ x. x.lit))

-- no literal is at two places
pub same_place : (raw : Raw) → IsSound raw → (d e : Place) (l : ℕ) → At raw d l → At raw e l → d ≡ e
unfolding place_index
same_place raw s constant constant l p q = refl
same_place raw s constant (input j) l p q = absurd ((section_apart raw s (input j) l tt q).0 p)
same_place raw s constant (latch j) l p q = absurd ((section_apart raw s (latch j) l tt q).0 p)
same_place raw s constant (gate j) l p q = absurd ((section_apart raw s (gate j) l tt q).0 p)
same_place raw s constant odd l p q = absurd (omega arith)
same_place raw s odd odd l p q = refl
same_place raw s odd (input j) l p q = absurd ((section_apart raw s (input j) l tt q).1 p)
same_place raw s odd (latch j) l p q = absurd ((section_apart raw s (latch j) l tt q).1 p)
same_place raw s odd (gate j) l p q = absurd ((section_apart raw s (gate j) l tt q).1 p)
same_place raw s odd constant l p q = absurd (omega arith)
same_place raw s (input i) constant l p q = absurd ((section_apart raw s (input i) l tt p).0 q)
same_place raw s (input i) odd l p q = absurd ((section_apart raw s (input i) l tt p).1 q)
same_place raw s (input i) (input j) l p q = ap input (same_index raw s (input i) (input j) l tt tt p q)
same_place raw s (input i) (latch j) l p q = absurd (input-latch raw s i j l p q)
same_place raw s (input i) (gate j) l p q = absurd (input-gate raw s i j l p q)
same_place raw s (latch i) constant l p q = absurd ((section_apart raw s (latch i) l tt p).0 q)
same_place raw s (latch i) odd l p q = absurd ((section_apart raw s (latch i) l tt p).1 q)
same_place raw s (latch i) (input j) l p q = absurd (input-latch raw s j i l q p)
same_place raw s (latch i) (latch j) l p q =
    let e = same_index raw s (latch i) (latch j) l tt tt p q in let f : i ≡ j = omega arith in ap latch f
same_place raw s (latch i) (gate j) l p q = absurd (latch-gate raw s i j l p q)
same_place raw s (gate i) constant l p q = absurd ((section_apart raw s (gate i) l tt p).0 q)
same_place raw s (gate i) odd l p q = absurd ((section_apart raw s (gate i) l tt p).1 q)
same_place raw s (gate i) (input j) l p q = absurd (input-gate raw s j i l q p)
same_place raw s (gate i) (latch j) l p q = absurd (latch-gate raw s j i l q p)
same_place raw s (gate i) (gate j) l p q =
    let e = same_index raw s (gate i) (gate j) l tt tt p q in let f : i ≡ j = omega arith in ap gate f
