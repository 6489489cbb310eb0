-- A defined literal has a value at each frame that has a row.
use Rattle.std.proofs.Common.{◌≡◌, ◌⊎◌, inl, inr, ℕ, zero, suc, ◌-◌, ◌*◌, ◌<◌, List, [], length, map, Some, slice_get}
use Rattle.std.proofs.Common.{get_or, Contains, refl, ◌∙◌, ap, arith, option_map}
use Rattle.std.proofs.lemmas.Option.{slice_get-map, slice_get_within, slice_get-get_or}
use Rattle.std.proofs.lemmas.List.Elements.{All-contains, Contains-append_left as left}
use Rattle.aig_parts.specs.declared.ternary.Tern.{Tern}
use Rattle.aig_parts.specs.declared.ternary.Tern.TheVariants.{Zero, One, X}
use Rattle.aig_parts.specs.declared.latch.Latch.{Latch}
use Rattle.aig_parts.specs.Ternary.{kleene_and, kleene_not}
use Rattle.aig_parts.specs.Literal.{variable, IsNegated}
use Rattle.aig_parts.specs.declared.raw.Raw.{Raw}
use Rattle.aig_base.specs.Sections.{uses, IsDefined}
use Rattle.aig_base.specs.Grounded.{Grounded, IsSource, IsAcyclic}
use Rattle.aig_base.specs.Grounded as grounded
use Rattle.aig_base.specs.Sound.{IsSound}
use Rattle.aig_base.specs.Value as value
use Rattle.aig_base.specs.Value.{Value, Fits, ExactlyOne, HaveOneValue}
use Rattle.aig_base.proofs.circuits.Places.{Place, IsSection, input, latch, gate, At, IsDefinition-of_place}
use Rattle.aig_base.proofs.lists.Positions.{Contains-from_slice_get}
use Rattle.aig_base.proofs.circuits.Defined.{even, Grounded-of_defined}
use Rattle.aig_base.proofs.values.UniqueValue.{unique}

-- a literal is constant, or the even one of its variable, or the odd one
signs : (l : ℕ) → (l ≡ 1) ⊎ ((2 * variable l ≡ l) ⊎ ((1 < l) × IsNegated l × (2 * variable l ≡ l - 1)))
signs l = grind arith

module _ (raw : Raw) (start : List Tern) (rows : List (List Tern))
    (sound : IsSound raw) (acyclic : IsAcyclic raw) (fits : Fits raw start rows) where
  Has : ℕ → ℕ → Type 0
  Has t l = (w : Tern) × Value raw start rows t l w

  -- a literal has a value where the even literal of its variable has one
  of_even : (t l : ℕ) → Has t (2 * variable l) → Has t l
  unfolding Has
  of_even t l (w, v) = elim (signs l) [
    | inl one ↦ (One, rw one (value.constant_true t))
    | inr o ↦ elim o [
      | inl same ↦ (w, rw same at v)
      | inr other ↦ (kleene_not w, value.negated t l w other.0 other.1 (rw other.2 at v))
    ]
  ]

  even_place : (t : ℕ) (d : Place) (l : ℕ) → IsSection d → At raw d l → Has t l → Has t (2 * variable l)
  unfolding Has
  even_place t d l h at v = let e : 2 * variable l ≡ l = even l (IsDefinition-of_place raw sound d l h at) in rw e v

  -- at a frame where each source has a value
  of_grounded : (t : ℕ) → ((v : ℕ) → IsSource raw v → Has t (2 * v)) → (v : ℕ) → Grounded raw v → Has t (2 * v)
  unfolding Has
  of_grounded t sources v (grounded.source _ h) = sources v h
  of_grounded t sources v (grounded.gate q g at g0 g1) =
      let (a, va) = of_even t g.rhs0 (of_grounded t sources (variable g.rhs0) g0) in
      let (b, vb) = of_even t g.rhs1 (of_grounded t sources (variable g.rhs1) g1) in
      even_place t (gate q) g.lhs tt (g, at, refl) (kleene_and a b, value.gate t q g a b at va vb)

  of_defined : (t : ℕ) → ((v : ℕ) → IsSource raw v → Has t (2 * v)) → (l : ℕ) → IsDefined raw (variable l) → Has t l
  of_defined t sources l h =
      of_even t l (of_grounded t sources (variable l) (Grounded-of_defined raw acyclic (variable l) h))

  of_input : (t : ℕ) → t < length rows → (p l : ℕ) → slice_get raw.inputs p ≡ Some l → Has t l
  unfolding Has
  of_input t lt p l at =
      let row = get_or rows t [] in
      let wide : length row ≡ length raw.inputs = fits.inputs t [] lt in
      let below : p < length row = let w = slice_get_within raw.inputs p l at in omega arith in (
        get_or row p X,
        value.input t p l (get_or row p X) row at (slice_get-get_or rows t [] lt) (slice_get-get_or row p X below),
      )

  of_latch_first : (p : ℕ) (x : Latch) → slice_get raw.latches p ≡ Some x → Has 0 x.lit
  unfolding Has
  of_latch_first p x at =
      let below : p < length start = let w = slice_get_within raw.latches p x at in omega (arith, fits.latches) in
      (get_or start p X, value.latch_first p x (get_or start p X) at (slice_get-get_or start p X below))

  next_defined : (p : ℕ) (x : Latch) → slice_get raw.latches p ≡ Some x → IsDefined raw (variable x.next)
  next_defined p x at =
      let inside : Contains (map (λ x. x.next) raw.latches) x.next =
      Contains-from_slice_get _ p x.next
      (slice_get-map (λ x. x.next) raw.latches p ∙ ap (option_map (λ x. x.next)) at) in
      All-contains (λ l. IsDefined raw (variable l)) (uses raw) x.next sound.defined
      (left _ _ _ (left _ _ _ (left _ _ _ (left _ _ _ (left _ _ _ (left _ _ _ inside))))))

  sources : (t : ℕ) → t < length rows → (v : ℕ) → IsSource raw v → Has t (2 * v)
  unfolding Has
  sources t lt v grounded.constant = (Zero, value.constant_false t)
  sources t lt v (grounded.input p l at) = even_place t (input p) l tt at (of_input t lt p l at)
  sources zero lt v (grounded.latch p x at) = even_place 0 (latch p) x.lit tt (x, at, refl) (of_latch_first p x at)
  sources (suc t) lt v (grounded.latch p x at) =
      let (w, v) = of_defined t (sources t (omega arith)) x.next (next_defined p x at) in
      even_place (suc t) (latch p) x.lit tt (x, at, refl) (w, value.latch_next t p x w at v)

  pub exists_value : (t : ℕ) → t < length rows → (l : ℕ) → IsDefined raw (variable l)
      → (w : Tern) × Value raw start rows t l w
  unfolding Has
  exists_value t lt l h = of_defined t (sources t lt) l h

pub have_one_value : (raw : Raw) (start : List Tern) (rows : List (List Tern)) → IsSound raw → IsAcyclic raw
    → Fits raw start rows → HaveOneValue raw start rows
have_one_value raw start rows sound acyclic fits t l lt h =
    let (w, v) = exists_value raw start rows sound acyclic fits t lt l h in
    (w, v, λ u e. unique raw start rows sound e v)
