-- A run has the same verdict for a property and for the one that it was selected from.
use Rattle.std.proofs.Common.{◌≡◌, ℕ, ◌-◌, ◌<◌, List, [], ◌∷◌, length, map, get_or, Some, slice_get, option_map, refl}
use Rattle.std.proofs.Common.{sym, ◌∙◌, ap, All}
use Rattle.std.proofs.lemmas.Option.{slice_get-map, slice_get-get_or}
use Rattle.aig_parts.specs.declared.latch.Latch.{Latch}
use Rattle.aig_parts.specs.declared.raw.Raw.{Raw}
use Rattle.aig_parts.specs.declared.ternary.Tern.{Tern}
use Rattle.aig_parts.specs.declared.ternary.Tern.TheVariants.{One}
use Rattle.aig_parts.specs.SymbolPlaces.{Key}
use Rattle.aig_base.specs.declared.select.PropertySection.{PropertySection}
use Rattle.aig_base.specs.declared.select.PropertySection.TheVariants as sections
use Rattle.aig_base.specs.Selected.{properties_in, bad_in, outputs_in, with_properties, selected, selected_positions}
use Rattle.aig_base.specs.Selected.{AreProperties}
use Rattle.aig_base.specs.Value as value
use Rattle.aig_base.specs.Value.{Value}
use Rattle.aig_base.proofs.lists.Gets.{All-at}
use Rattle.aig_base.proofs.selections.SelectedCircuit.{all_there}
use Rattle.aig_sim.specs.declared.witness.verdict.Verdict.{Verdict}
use Rattle.aig_sim.specs.declared.witness.verdict.Verdict.TheVariants as verdict
use Rattle.aig_sim.specs.Verdict.{VerdictApplies}
use Rattle.aig_sim.specs.WitnessText.{Witness}
use Rattle.aig_refute.specs.Unreachable.{IsUnreachable}
use Rattle.aig_refute.specs.Selection.{with_bad, of_property, HaveSameVerdictsOf}

-- values do not depend on properties and names
module _ (raw : Raw) (outputs bad : List ℕ) (justice : List (List ℕ)) (fairness : List ℕ) (symbols : List (Key × List ℕ))
    (start : List Tern) (rows : List (List Tern)) where
  abbrev other : Raw
  other = record raw { outputs = outputs; bad = bad; justice = justice; fairness = fairness; symbols = symbols }

  value_there : (t l : ℕ) (w : Tern) → Value raw start rows t l w → Value other start rows t l w
  value_there t l w (value.constant_false _) = value.constant_false t
  value_there t l w (value.constant_true _) = value.constant_true t
  value_there t l w (value.input _ p _ _ row a b c) = value.input t p l w row a b c
  value_there t l w (value.latch_first p x _ a b) = value.latch_first p x w a b
  value_there t l w (value.latch_next t' p x _ a v) = value.latch_next t' p x w a (value_there _ _ _ v)
  value_there t l w (value.gate _ q g a b at v u) = value.gate t q g a b at (value_there _ _ _ v) (value_there _ _ _ u)
  value_there t l w (value.negated _ _ w' lt odd v) = value.negated t l w' lt odd (value_there _ _ _ v)

  value_back : (t l : ℕ) (w : Tern) → Value other start rows t l w → Value raw start rows t l w
  value_back t l w (value.constant_false _) = value.constant_false t
  value_back t l w (value.constant_true _) = value.constant_true t
  value_back t l w (value.input _ p _ _ row a b c) = value.input t p l w row a b c
  value_back t l w (value.latch_first p x _ a b) = value.latch_first p x w a b
  value_back t l w (value.latch_next t' p x _ a v) = value.latch_next t' p x w a (value_back _ _ _ v)
  value_back t l w (value.gate _ q g a b at v u) = value.gate t q g a b at (value_back _ _ _ v) (value_back _ _ _ u)
  value_back t l w (value.negated _ _ w' lt odd v) = value.negated t l w' lt odd (value_back _ _ _ v)

-- from one circuit to another that has the same latches, constraints and values, and the property at another position
module _ (old new : Raw) (w : Witness) (p q : ℕ) (latches : old.latches ≡ new.latches)
    (constraints : old.constraints ≡ new.constraints) (bad : slice_get old.bad p ≡ slice_get new.bad q)
    (there : (t l : ℕ) (v : Tern) → Value old w.start w.rows t l v → Value new w.start w.rows t l v) where
  applies_there : (v : Verdict) → VerdictApplies old (of_property p w) v → VerdictApplies new (of_property q w) v
  applies_there (verdict.Initial n) h = record {
    latch = h.latch;
    value = h.value;
    latch_is = ap (λ (xs : List Latch). slice_get xs n) (sym latches) ∙ h.latch_is;
    value_is = h.value_is;
    wrong = h.wrong;
  }
  applies_there (verdict.Constraint t n) (lt, h) = (
    lt,
    record {
      literal = h.literal;
      value = h.value;
      literal_is = ap (λ (ls : List ℕ). slice_get ls n) (sym constraints) ∙ h.literal_is;
      value_is = there t h.literal h.value h.value_is;
      not_one = h.not_one;
    },
  )
  applies_there verdict.NotBad h = record {
    literal = h.literal;
    value = h.value;
    literal_is = sym bad ∙ h.literal_is;
    value_is = there (length w.rows - 1) h.literal h.value h.value_is;
    not_one = h.not_one;
  }
  applies_there verdict.Confirmed h = h

-- the property at a selected position
own_bad : (into : PropertySection) (raw : Raw) (literals : List ℕ) (symbols : List (Key × List ℕ))
    → properties_in into (with_properties raw (outputs_in into literals) (bad_in into literals) symbols) ≡ literals
own_bad sections.Bad raw literals symbols = refl
own_bad sections.Outputs raw literals symbols = refl

positions_there : (n : ℕ) (named : List ℕ) → All (λ p. p < n) named → All (λ p. p < n) (selected_positions n named)
positions_there n [] h = all_there n
positions_there n (p ∷ ps) h = h

pub same_selected : (raw : Raw) (from into : PropertySection) (named : List ℕ) (p q : ℕ) (w : Witness)
    → AreProperties raw from named → slice_get (selected_positions (length (properties_in from raw)) named) q ≡ Some p
    → HaveSameVerdictsOf p q (with_bad from raw) (with_bad into (selected raw from into named)) w
same_selected raw from into named p q w there at =
    let old = properties_in from raw in
    let positions = selected_positions (length old) named in
    let literals = map (λ (n : ℕ). get_or old n 0) positions in
    let one = with_bad from raw in
    let new = selected raw from into named in
    let two = with_bad into new in
    let below : p < length old = All-at (λ n. n < length old) positions q p (positions_there (length old) named there) at in
    let bad : slice_get one.bad p ≡ slice_get two.bad q =
    slice_get-get_or old p 0 below
    ∙ sym (ap (λ (ls : List ℕ). slice_get ls q) (own_bad into raw literals new.symbols)
    ∙ slice_get-map (λ (n : ℕ). get_or old n 0) positions q ∙ ap (option_map (λ (n : ℕ). get_or old n 0)) at) in
    let forth : (t l : ℕ) (v : Tern) → Value one w.start w.rows t l v → Value two w.start w.rows t l v = λ t l v x.
    value_there raw two.outputs two.bad two.justice two.fairness two.symbols w.start w.rows t l v
    (value_back raw one.outputs one.bad one.justice one.fairness one.symbols w.start w.rows t l v x) in
    let back : (t l : ℕ) (v : Tern) → Value two w.start w.rows t l v → Value one w.start w.rows t l v = λ t l v x.
    value_there raw one.outputs one.bad one.justice one.fairness one.symbols w.start w.rows t l v
    (value_back raw two.outputs two.bad two.justice two.fairness two.symbols w.start w.rows t l v x) in
    λ v. (
      λ h. record {
        applies = applies_there one two w p q refl refl bad forth v h.applies;
        first = λ u before k. h.first u before (applies_there two one w q p refl refl (sym bad) back u k);
      },
      λ h. record {
        applies = applies_there two one w q p refl refl (sym bad) back v h.applies;
        first = λ u before k. h.first u before (applies_there one two w p q refl refl bad forth u k);
      },
    )

-- no run reaches the property, where none reaches it at its new position
pub unreachable_selected : (raw : Raw) (from into : PropertySection) (named : List ℕ) (p q : ℕ)
    → AreProperties raw from named → slice_get (selected_positions (length (properties_in from raw)) named) q ≡ Some p
    → IsUnreachable (with_bad into (selected raw from into named)) q → IsUnreachable (with_bad from raw) p
unreachable_selected raw from into named p q there at none start rows t (fits, allowed, lt, (b, is, (one, all))) =
    let old = properties_in from raw in
    let positions = selected_positions (length old) named in
    let literals = map (λ (n : ℕ). get_or old n 0) positions in
    let from_old = with_bad from raw in
    let new = selected raw from into named in
    let two = with_bad into new in
    let below : p < length old = All-at (λ n. n < length old) positions q p (positions_there (length old) named there) at in
    let bad : slice_get from_old.bad p ≡ slice_get two.bad q =
    slice_get-get_or old p 0 below
    ∙ sym (ap (λ (ls : List ℕ). slice_get ls q) (own_bad into raw literals new.symbols)
    ∙ slice_get-map (λ (n : ℕ). get_or old n 0) positions q ∙ ap (option_map (λ (n : ℕ). get_or old n 0)) at) in
    let forth : (u l : ℕ) (v : Tern) → Value from_old start rows u l v → Value two start rows u l v = λ u l v x.
    value_there raw two.outputs two.bad two.justice two.fairness two.symbols start rows u l v
    (value_back raw from_old.outputs from_old.bad from_old.justice from_old.fairness from_old.symbols start rows u l v x) in
    none start rows t (
      record { latches = fits.latches; inputs = fits.inputs },
      allowed,
      lt,
      (b, sym bad ∙ is, (forth t b One one, λ s c le has. forth s c One (all s c le has))),
    )
