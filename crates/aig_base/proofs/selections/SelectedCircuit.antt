-- Other properties keep a circuit a circuit.
use Rattle.std.proofs.Common.{◌≡◌, ℕ, ◌<◌, ◌≤◌, List, [], ◌∷◌, length, get_or, map, flat_map, refl, arith, All}
use Rattle.std.specs.List.{range_with_len}
use Rattle.std.proofs.lemmas.List.FromFn.{length-range_with_len, get_or-range_with_len}
use Rattle.std.proofs.lemmas.List.{length-map, get_or_default}
use Rattle.std.proofs.lemmas.List.Elements.{All-nil, All-cons, All-append, All-map, All-get_or, All-head, All-tail}
use Rattle.aig_base.specs.declared.circuit.definitions.Definitions.{Definitions}
use Rattle.aig_base.specs.declared.circuit.definitions.Definitions.TheVariants as kept
use Rattle.aig_base.specs.declared.select.PropertySection.{PropertySection}
use Rattle.aig_base.specs.declared.select.PropertySection.TheVariants as sections
use Rattle.aig_parts.specs.declared.raw.Raw.{Raw}
use Rattle.aig_parts.specs.declared.symbols.Kind.{Kind}
use Rattle.aig_parts.specs.declared.symbols.Kind.TheVariants as kinds
use Rattle.aig_parts.specs.SymbolPlaces.{Key}
use Rattle.aig_parts.specs.Formed.{IsFormed, IsSymbolOf, AreNamedOnce, limit, section_length}
use Rattle.aig_parts.specs.Literal.{variable}
use Rattle.aig_base.specs.Circuit.{IsCircuit}
use Rattle.aig_base.specs.state.Definitions.{AreDefinitionsOf}
use Rattle.aig_base.specs.Grounded as grounded
use Rattle.aig_base.specs.Grounded.{IsSource, Grounded, Level}
use Rattle.aig_base.specs.Levels.{AreLevels}
use Rattle.aig_base.specs.Sections.{IsDefined}
use Rattle.aig_base.specs.Selected.{properties_in, kind_of, bad_in, outputs_in, with_properties, places_from, moved}
use Rattle.aig_base.specs.Selected.{kept_entries, kept_symbols, selected_at, selected, AreProperties}
use Rattle.aig_base.specs.Sound.{IsInRange, IsSound}
use Rattle.aig_base.proofs.checks.Faults.{in_range_joined, in_range_parted, uses_joined, uses_parted}
use Rattle.aig_base.proofs.rewires.Rewiring.{in_range_from_defined}
use Rattle.aig_base.proofs.selections.KeptNames.{kept_distinct, place_is}

all_bad : (P : ℕ → Type 0) (into : PropertySection) (literals : List ℕ) → All P literals → All P (bad_in into literals)
all_bad P sections.Bad literals h = h
all_bad P sections.Outputs literals h = All-nil P

all_outputs : (P : ℕ → Type 0) (into : PropertySection) (literals : List ℕ) → All P literals → All P (outputs_in into literals)
all_outputs P sections.Bad literals h = All-nil P
all_outputs P sections.Outputs literals h = h

few_bad : (into : PropertySection) (literals : List ℕ) → length literals ≤ limit → length (bad_in into literals) ≤ limit
few_bad sections.Bad literals h = h
few_bad sections.Outputs literals h = omega arith

few_outputs : (into : PropertySection) (literals : List ℕ) → length literals ≤ limit → length (outputs_in into literals) ≤ limit
few_outputs sections.Bad literals h = omega arith
few_outputs sections.Outputs literals h = h

module _ (raw : Raw) (outputs bad : List ℕ) (symbols : List (Key × List ℕ)) where
  abbrev new : Raw
  new = with_properties raw outputs bad symbols

  formed : IsFormed raw → length outputs ≤ limit → length bad ≤ limit → All (IsSymbolOf new) symbols → AreNamedOnce new
      → IsFormed new
  formed f few_outputs few_bad named once = record {
    counts = record {
      max_var = f.counts.max_var;
      inputs = f.counts.inputs;
      latches = f.counts.latches;
      outputs = few_outputs;
      bad = few_bad;
      constraints = f.counts.constraints;
      justice = omega arith;
      fairness = omega arith;
      gates = f.counts.gates;
      justice_literals = omega arith;
    };
    symbols = named;
    names = once;
  }

  sound : IsSound raw → All (λ l. IsDefined raw (variable l)) outputs → All (λ l. IsDefined raw (variable l)) bad → IsSound new
  sound s has_outputs has_bad =
      let P : ℕ → Type 0 = λ l. IsDefined raw (variable l) in
      let u = uses_parted raw P s.defined in
      let h = in_range_parted raw s.in_range in
      let ranged : (literals : List ℕ) → All P literals → All (IsInRange raw) literals = λ literals has k d l.
      in_range_from_defined raw (get_or literals k d) s (has k d l) in
      record {
        in_range = in_range_joined new (record {
          inputs = h.inputs;
          latches = h.latches;
          outputs = ranged outputs has_outputs;
          bad = ranged bad has_bad;
          constraints = h.constraints;
          justice = All-nil (λ p. All (IsInRange raw) p);
          fairness = All-nil (IsInRange raw);
          gates = h.gates;
        });
        definitions = s.definitions;
        once = s.once;
        defined = uses_joined new P u.0 has_outputs has_bad u.3
            (All-nil (λ p. All P p)) (All-nil P) u.6;
        resets = s.resets;
      }

  still_source : (v : ℕ) → IsSource raw v → IsSource new v
  still_source v grounded.constant = grounded.constant
  still_source v (grounded.input p l at) = grounded.input p l at
  still_source v (grounded.latch p x at) = grounded.latch p x at

  still_grounded : (v : ℕ) → Grounded raw v → Grounded new v
  still_grounded v (grounded.source _ s) = grounded.source v (still_source v s)
  still_grounded v (grounded.gate q g at a b) = grounded.gate q g at (still_grounded _ a) (still_grounded _ b)

  with_properties-circuit : IsCircuit raw → length outputs ≤ limit → length bad ≤ limit
      → All (λ l. IsDefined raw (variable l)) outputs → All (λ l. IsDefined raw (variable l)) bad
      → All (IsSymbolOf new) symbols → AreNamedOnce new → IsCircuit new
  with_properties-circuit c few_outputs few_bad has_outputs has_bad named once = record {
    formed = formed c.formed few_outputs few_bad named once;
    sound = sound c.sound has_outputs has_bad;
    acyclic = λ v is. still_grounded v (c.acyclic v is);
  }

  was_source : (v : ℕ) → IsSource new v → IsSource raw v
  was_source v grounded.constant = grounded.constant
  was_source v (grounded.input p l at) = grounded.input p l at
  was_source v (grounded.latch p x at) = grounded.latch p x at

  was_level : (v n : ℕ) → Level new v n → Level raw v n
  was_level v n (grounded.source _ s) = grounded.source v (was_source v s)
  was_level v n (grounded.gate q g a b at x y) = grounded.gate q g a b at (was_level _ a x) (was_level _ b y)

  -- the levels that a circuit keeps are its levels still
  pub with_properties-levels : (levels : List ℕ) → AreLevels raw levels → AreLevels new levels
  with_properties-levels levels h = record { size = h.size; each = λ v n l. h.each v n (was_level v n l) }

  pub with_properties-describes : (d : Definitions) → AreDefinitionsOf raw d → AreDefinitionsOf new d
  with_properties-describes kept.InOrder h = h
  with_properties-describes (kept.Listed table) h = record { size = h.size; numbers = h.numbers }

-- ---- properties at some positions

defined_of : (raw : Raw) (from : PropertySection) (P : ℕ → Type 0) → All P raw.outputs → All P raw.bad
    → All P (properties_in from raw)
defined_of raw sections.Bad P outputs bad = bad
defined_of raw sections.Outputs P outputs bad = outputs

own_length : (raw : Raw) (into : PropertySection) (literals : List ℕ) (symbols : List (Key × List ℕ))
    → section_length (with_properties raw (outputs_in into literals) (bad_in into literals) symbols) (kind_of into) ≡ length literals
own_length raw sections.Bad literals symbols = refl
own_length raw sections.Outputs literals symbols = refl

module _ (raw : Raw) (into : PropertySection) (positions literals : List ℕ) (symbols : List (Key × List ℕ))
    (size : length literals ≡ length positions) where
  abbrev circuit : Raw
  circuit = with_properties raw (outputs_in into literals) (bad_in into literals) symbols

  abbrev IsThere : Key → Type 0
  IsThere e = e.1 < section_length circuit e.0

  moved_there : (p : ℕ) → All IsThere (moved into positions p)
  moved_there p =
      let places = places_from 0 positions p in
      All-map IsThere (λ (j : ℕ). let k : Key = (kind_of into, j) in k) places
      (λ k d l.
      let j = get_or places k d in
      let is = place_is 0 positions p j (k, l, get_or_default places k j d l) in
      omega (arith, is.1, own_length raw into literals symbols, size))

  entries_there : (from : PropertySection) (k : Kind) (p : ℕ) → p < section_length raw k
      → All IsThere (kept_entries from into positions k p)
  entries_there from kinds.Input p lt = All-cons IsThere (kinds.Input, p) [] lt (All-nil IsThere)
  entries_there from kinds.Latch p lt = All-cons IsThere (kinds.Latch, p) [] lt (All-nil IsThere)
  entries_there from kinds.Constraint p lt = All-cons IsThere (kinds.Constraint, p) [] lt (All-nil IsThere)
  entries_there sections.Bad kinds.Bad p lt = moved_there p
  entries_there sections.Outputs kinds.Bad p lt = All-nil IsThere
  entries_there sections.Bad kinds.Output p lt = All-nil IsThere
  entries_there sections.Outputs kinds.Output p lt = moved_there p
  entries_there sections.Bad kinds.Justice p lt = All-nil IsThere
  entries_there sections.Outputs kinds.Justice p lt = All-nil IsThere
  entries_there sections.Bad kinds.Fairness p lt = All-nil IsThere
  entries_there sections.Outputs kinds.Fairness p lt = All-nil IsThere

  -- each name that is left is one of an entry that is there
  names_there : (from : PropertySection) (old : List (Key × List ℕ)) → All (IsSymbolOf raw) old
      → All (IsSymbolOf circuit) (flat_map (kept_symbols from into positions) old)
  names_there from [] h = All-nil (IsSymbolOf circuit)
  names_there from (s ∷ old) h =
      let one = All-head (IsSymbolOf raw) s old h in
      let there = entries_there from s.0.0 s.0.1 one.0 in
      All-append (IsSymbolOf circuit) (kept_symbols from into positions s) (flat_map (kept_symbols from into positions) old)
      (All-map (IsSymbolOf circuit) (λ (e : Key). (e, s.1)) (kept_entries from into positions s.0.0 s.0.1)
      (λ k d l. (there k d l, one.1)))
      (names_there from old (All-tail (IsSymbolOf raw) s old h))

pub selected_at-circuit : (raw : Raw) (from into : PropertySection) (positions : List ℕ) → IsCircuit raw
    → AreProperties raw from positions → length positions ≤ limit → IsCircuit (selected_at raw from into positions)
selected_at-circuit raw from into positions c there few =
    let P : ℕ → Type 0 = λ l. IsDefined raw (variable l) in
    let old = properties_in from raw in
    let literals = map (λ (p : ℕ). get_or old p 0) positions in
    let symbols = flat_map (kept_symbols from into positions) raw.symbols in
    let size : length literals ≡ length positions = length-map positions (λ (p : ℕ). get_or old p 0) in
    let u = uses_parted raw P c.sound.defined in
    let all : All P old = defined_of raw from P u.1 u.2 in
    let has : All P literals = All-map P (λ (p : ℕ). get_or old p 0) positions
    (λ k d l. All-get_or P old (get_or positions k d) 0 (there k d l) all) in
    let fits : length literals ≤ limit = omega (arith, size, few) in
    with_properties-circuit raw (outputs_in into literals) (bad_in into literals) symbols c
    (few_outputs into literals fits) (few_bad into literals fits) (all_outputs P into literals has) (all_bad P into literals has)
    (names_there raw into positions literals symbols size from raw.symbols c.formed.symbols)
    (kept_distinct from into positions raw.symbols c.formed.names)

few_of : (raw : Raw) (from : PropertySection) → IsFormed raw → length (properties_in from raw) ≤ limit
few_of raw sections.Bad f = f.counts.bad
few_of raw sections.Outputs f = f.counts.outputs

-- all positions of a section are there
pub all_there : (n : ℕ) → All (λ p. p < n) (range_with_len 0 n)
all_there n = λ k d l.
    let lt : k < n = omega (arith, l, length-range_with_len 0 n) in
    omega (arith, get_or-range_with_len 0 n k d lt)

pub selected-circuit : (raw : Raw) (from into : PropertySection) (named : List ℕ) → IsCircuit raw
    → AreProperties raw from named → length named ≤ limit → IsCircuit (selected raw from into named)
selected-circuit raw from into [] c there few =
    let n = length (properties_in from raw) in
    selected_at-circuit raw from into (range_with_len 0 n) c (all_there n)
    (omega (arith, length-range_with_len 0 n, few_of raw from c.formed))
selected-circuit raw from into (p ∷ ps) c there few = selected_at-circuit raw from into (p ∷ ps) c there few
