-- A run of a circuit, with own inputs at 0 and own latches as their resets say, is a run of each circuit that extends
-- it, and reaches the bad state there too.
use Rattle.std.proofs.Common.{◌≡◌, inr, ℕ, zero, suc, ◌<◌, List, [], ◌∷◌, ◌++◌, length, map}
use Rattle.std.proofs.Common.{replicate, Contains, Some, slice_get}
use Rattle.std.proofs.Common.{option_map, sym, ◌∙◌, ap, subst, arith, length-append}
use Rattle.std.proofs.lemmas.List.{length-map, length-replicate}
use Rattle.std.proofs.lemmas.List.Elements.{All-map, All-weaker}
use Rattle.std.proofs.lemmas.Option.{slice_get-map}
use Rattle.aig_base.proofs.values.Refined.{and-zero}
use Rattle.aig_certificate.proofs.Extensions.{twice_negated}
use Rattle.aig_parts.specs.Literal.{negation, variable}
use Rattle.aig_parts.specs.declared.gate.Gate.{Gate}
use Rattle.aig_parts.specs.declared.latch.Latch.{Latch}
use Rattle.aig_parts.specs.declared.raw.Raw.{Raw}
use Rattle.aig_parts.specs.declared.ternary.Tern.{Tern}
use Rattle.aig_parts.specs.declared.ternary.Tern.TheVariants.{Zero, One}
use Rattle.aig_base.specs.Circuit.{IsCircuit}
use Rattle.aig_base.specs.Runs.{Allows, IsAllowed, ReachesBad}
use Rattle.aig_base.specs.Sections.{IsDefined}
use Rattle.aig_base.specs.Value as value
use Rattle.aig_base.specs.Value.{Value, Fits, reset_value}
use Rattle.aig_base.proofs.circuits.EachUse.{each_use}
use Rattle.aig_base.proofs.lists.Gets.{All-at}
use Rattle.aig_base.proofs.lists.Positions.{position_of, slice_get_left}
use Rattle.aig_base.proofs.values.NegatedValues.{of_negation}
use Rattle.aig_base.proofs.values.OneValue.{exists_value}
use Rattle.aig_certificate.specs.Extension as extension
use Rattle.aig_certificate.specs.Extension.{IsAndOf, IsExtension}
use Rattle.aig_refute.specs.Unreachable.{IsUnreachable}

-- ---- latches that start as their resets say

abbrev first_values : List Latch → List Tern
first_values latches = map (λ y. reset_value y.reset) latches

allowed_first : (ys : List Latch) (p : ℕ) (y : Latch) (w : Tern) → slice_get ys p ≡ Some y
    → slice_get (first_values ys) p ≡ Some w → Allows y w
allowed_first ys p y w at is =
    let same : Some w ≡ Some (reset_value y.reset) =
    sym is ∙ slice_get-map (λ y. reset_value y.reset) ys p ∙ ap (option_map (λ y. reset_value y.reset)) at in
    inr (let value_is : w ≡ reset_value y.reset = cc in value_is)

-- more latches that start so
allowed_more : (xs ys : List Latch) (ws : List Tern) → length ws ≡ length xs
    → ((p : ℕ) (x : Latch) (w : Tern) → slice_get xs p ≡ Some x → slice_get ws p ≡ Some w → Allows x w)
    → (p : ℕ) (y : Latch) (w : Tern) → slice_get (xs ++ ys) p ≡ Some y → slice_get (ws ++ first_values ys) p ≡ Some w
    → Allows y w
allowed_more [] ys [] long allowed p y w at is = allowed_first ys p y w at is
allowed_more [] ys (v ∷ ws) long allowed p y w at is = absurd (omega (arith, long))
allowed_more (x ∷ xs) ys [] long allowed p y w at is = absurd (omega (arith, long))
allowed_more (x ∷ xs) ys (v ∷ ws) long allowed zero y w at is = allowed zero y w at is
allowed_more (x ∷ xs) ys (v ∷ ws) long allowed (suc p) y w at is =
    allowed_more xs ys ws (omega (arith, long)) (λ q z u. allowed (suc q) z u) p y w at is

-- ---- the longer run

module _ (raw x : Raw) (b : ℕ) (e : IsExtension raw x b) (start : List Tern) (rows : List (List Tern)) where
  abbrev zeros : List Tern
  zeros = replicate (length e.more_inputs) Zero

  abbrev longer_start : List Tern
  longer_start = start ++ first_values e.more_latches

  abbrev longer_rows : List (List Tern)
  longer_rows = map (λ row. row ++ zeros) rows

  input_there : (p l : ℕ) → slice_get raw.inputs p ≡ Some l → slice_get x.inputs p ≡ Some l
  input_there p l at = ap (λ ls. slice_get ls p) e.inputs_are ∙ slice_get_left raw.inputs e.more_inputs p l at

  latch_there : (p : ℕ) (y : Latch) → slice_get raw.latches p ≡ Some y → slice_get x.latches p ≡ Some y
  latch_there p y at = ap (λ ls. slice_get ls p) e.latches_are ∙ slice_get_left raw.latches e.more_latches p y at

  gate_there : (q : ℕ) (g : Gate) → slice_get raw.gates q ≡ Some g → slice_get x.gates q ≡ Some g
  gate_there q g at = ap (λ gs. slice_get gs q) e.gates_are ∙ slice_get_left raw.gates e.more_gates q g at

  row_there : (t : ℕ) (row : List Tern) → slice_get rows t ≡ Some row → slice_get longer_rows t ≡ Some (row ++ zeros)
  row_there t row is = slice_get-map (λ row. row ++ zeros) rows t ∙ ap (option_map (λ row. row ++ zeros)) is

  -- each value is one of the longer run
  stays : {t l : ℕ} {w : Tern} → Value raw start rows t l w → Value x longer_start longer_rows t l w
  stays (value.constant_false t) = value.constant_false t
  stays (value.constant_true t) = value.constant_true t
  stays (value.input t p l w row at is cell) =
      value.input t p l w (row ++ zeros) (input_there p l at) (row_there t row is) (slice_get_left row zeros p w cell)
  stays (value.latch_first p y w at is) =
      value.latch_first p y w (latch_there p y at) (slice_get_left start (first_values e.more_latches) p w is)
  stays (value.latch_next t p y w at v) = value.latch_next t p y w (latch_there p y at) (stays v)
  stays (value.gate t q g c d at vc vd) = value.gate t q g c d (gate_there q g at) (stays vc) (stays vd)
  stays (value.negated t l w over neg v) = value.negated t l w over neg (stays v)

  longer_fits : Fits raw start rows → Fits x longer_start longer_rows
  longer_fits fits = record {
    latches = omega (
      arith,
      fits.latches,
      length-append start (first_values e.more_latches),
      length-map e.more_latches (λ y. reset_value y.reset),
      length-append raw.latches e.more_latches,
      ap length e.latches_are,
    );
    inputs = All-map (λ row. length row ≡ length x.inputs) (λ row. row ++ zeros) rows
        (All-weaker (λ row. length row ≡ length raw.inputs) (λ row. length (row ++ zeros) ≡ length x.inputs)
        (λ row wide. omega (
          arith,
          wide,
          length-append row zeros,
          length-replicate (length e.more_inputs) Zero,
          length-append raw.inputs e.more_inputs,
          ap length e.inputs_are,
        )) rows fits.inputs);
  }

  longer_allowed : length start ≡ length raw.latches → IsAllowed raw start → IsAllowed x longer_start
  longer_allowed long allowed p y w at is =
      allowed_more raw.latches e.more_latches start long allowed p y w (sym (ap (λ ls. slice_get ls p) e.latches_are) ∙ at) is

  -- ---- the bad state

  module _ (circuit : IsCircuit x) (fits : Fits raw start rows) (t : ℕ) (lt : t < length rows) where
    abbrev Has : ℕ → Tern → Type 0
    Has l w = Value x longer_start longer_rows t l w

    valued : (l : ℕ) → IsDefined x (variable l) → (w : Tern) × Has l w
    valued l defined =
        exists_value x longer_start longer_rows circuit.sound circuit.acyclic (longer_fits fits) t
        (omega (arith, lt, length-map rows (λ row. row ++ zeros))) l defined

    sides_defined : (q : ℕ) (g : Gate) → slice_get x.gates q ≡ Some g
        → IsDefined x (variable g.rhs0) × IsDefined x (variable g.rhs1)
    sides_defined q g at =
        All-at (λ (h : Gate). IsDefined x (variable h.rhs0) × IsDefined x (variable h.rhs1)) x.gates q g
        (each_use (λ l. IsDefined x (variable l)) x circuit.sound.defined).sides at

    -- an AND with a 0 among its sides is 0
    zero_above : {l : ℕ} → IsAndOf x.gates (negation b) l → Has (negation b) Zero → Has l Zero
    zero_above extension.itself v = v
    zero_above (extension.first g has under) v =
        let (q, at) = position_of x.gates g has in
        let (w, other) = valued g.rhs1 (sides_defined q g at).1 in
        value.gate t q g Zero w at (zero_above under v) other
    zero_above (extension.second g has under) v =
        let (q, at) = position_of x.gates g has in
        let (w, other) = valued g.rhs0 (sides_defined q g at).0 in
        subst (λ (u : Tern). Has g.lhs u) (and-zero w) (value.gate t q g w Zero at other (zero_above under v))

    bad_there : Value raw start rows t b One → Has e.bad One
    bad_there v =
        let low : Has (negation b) Zero = of_negation x longer_start longer_rows circuit.sound.definitions (stays v) in
        subst (λ (l : ℕ). Has l One) (twice_negated e.bad)
        (of_negation x longer_start longer_rows circuit.sound.definitions (zero_above e.covers low))

    reaches_there : ReachesBad raw start rows t b → ReachesBad x longer_start longer_rows t e.bad
    reaches_there (bad, all) = (
      bad_there bad,
      λ s c le has. stays (all s c le (subst (λ cs. Contains cs c) e.constraints_are has)),
    )

pub unreachable_of_extension : (raw x : Raw) (p b : ℕ) → IsCircuit x → slice_get raw.bad p ≡ Some b → IsExtension raw x b
    → IsUnreachable x 0 → IsUnreachable raw p
unreachable_of_extension raw x p b circuit at e none start rows t (fits, allowed, lt, (c, here, reaches)) =
    let same : c ≡ b = (let f : Some c ≡ Some b = sym here ∙ at in cc) in
    none (longer_start raw x b e start rows) (longer_rows raw x b e start rows) t (
      longer_fits raw x b e start rows fits,
      longer_allowed raw x b e start rows fits.latches allowed,
      omega (arith, lt, length-map rows (λ row. row ++ zeros raw x b e start rows)),
      (
        e.bad,
        ap (λ ls. slice_get ls 0) e.bad_is,
        reaches_there raw x b e start rows circuit fits t lt (subst (λ n. ReachesBad raw start rows t n) same reaches),
      ),
    )
