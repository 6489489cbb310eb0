-- The lines of a trace with properties.
use Rattle.std.proofs.Common.{◌≡◌, ℕ, ◌≤◌, List, [], ◌∷◌, ◌++◌, length, map, flat_map, Some, slice_get, Contains, subst, append_assoc}
use Rattle.std.proofs.lemmas.List.Elements.{Contains-append_left, Contains-append_right}
use Rattle.aig_parts.specs.declared.ternary.Tern.{Tern}
use Rattle.aig_parts.specs.declared.raw.Raw.{Raw}
use Rattle.aig_parts.specs.Literal.{variable}
use Rattle.aig_base.specs.Sections.{uses, IsDefined}
use Rattle.aig_base.specs.Sound.{IsSound}
use Rattle.aig_base.proofs.circuits.Circuits.{use_defined, use_in_range}
use Rattle.aig_base.proofs.lists.Positions.{Contains-from_slice_get}
use Rattle.aig_values.specs.state.Frame.{HoldsAll}
use Rattle.aig_values.specs.Trace.{IsTraceLine}
use Rattle.aig_values.specs.PropertyTrace.{IsPropertyLine, IsPropertyTrace}
use Rattle.aig_values.specs.TraceText.{literal_character, fields_text, line_text, property_line_text}
use Rattle.aig_values.proofs.TraceLemmas.{line_is, line_more, line_stays, lines_changed, values_stay, values_text}

-- ---- literals of properties
third : (a b c d e f g : List ℕ) (x : ℕ) → Contains c x → Contains (a ++ b ++ c ++ d ++ e ++ f ++ g) x
third a b c d e f g x h =
    Contains-append_left _ g x (Contains-append_left _ f x (Contains-append_left _ e x (Contains-append_left _ d x
    (Contains-append_right (a ++ b) c x h))))

fourth : (a b c d e f g : List ℕ) (x : ℕ) → Contains d x → Contains (a ++ b ++ c ++ d ++ e ++ f ++ g) x
fourth a b c d e f g x h =
    Contains-append_left _ g x (Contains-append_left _ f x (Contains-append_left _ e x
    (Contains-append_right (a ++ b ++ c) d x h)))

module _ (raw : Raw) (sound : IsSound raw) where
  bad_used : (i l : ℕ) → slice_get raw.bad i ≡ Some l → Contains (uses raw) l
  bad_used i l at =
      third (map (λ x. x.next) raw.latches) raw.outputs raw.bad raw.constraints (flat_map (λ p. p) raw.justice)
      raw.fairness (flat_map (λ g. g.rhs0 ∷ g.rhs1 ∷ []) raw.gates) l (Contains-from_slice_get raw.bad i l at)

  constraint_used : (i l : ℕ) → slice_get raw.constraints i ≡ Some l → Contains (uses raw) l
  constraint_used i l at =
      fourth (map (λ x. x.next) raw.latches) raw.outputs raw.bad raw.constraints (flat_map (λ p. p) raw.justice)
      raw.fairness (flat_map (λ g. g.rhs0 ∷ g.rhs1 ∷ []) raw.gates) l (Contains-from_slice_get raw.constraints i l at)

  pub bad_in_range : (i l : ℕ) → slice_get raw.bad i ≡ Some l → variable l ≤ raw.max_var
  bad_in_range i l at = use_in_range raw sound l (bad_used i l at)

  pub bad_defined : (i l : ℕ) → slice_get raw.bad i ≡ Some l → IsDefined raw (variable l)
  bad_defined i l at = use_defined raw sound l (bad_used i l at)

  pub constraint_in_range : (i l : ℕ) → slice_get raw.constraints i ≡ Some l → variable l ≤ raw.max_var
  constraint_in_range i l at = use_in_range raw sound l (constraint_used i l at)

  pub constraint_defined : (i l : ℕ) → slice_get raw.constraints i ≡ Some l → IsDefined raw (variable l)
  constraint_defined i l at = use_defined raw sound l (constraint_used i l at)

-- ---- one line
-- the bytes of a line, field by field
fields_end : (a b c d : List ℕ)
    → (a ++ 32 ∷ []) ++ ((b ++ 32 ∷ []) ++ ((c ++ 32 ∷ []) ++ (d ++ 10 ∷ [])))
    ≡ (a ++ (32 ∷ (b ++ (32 ∷ (c ++ (32 ∷ d)))))) ++ 10 ∷ []
fields_end a b c d = simp append_assoc

properties_end : (a b c d e f : List ℕ)
    → ((a ++ 32 ∷ []) ++ ((b ++ 32 ∷ []) ++ ((c ++ 32 ∷ []) ++ (d ++ 32 ∷ [])))) ++ ((e ++ 32 ∷ []) ++ (f ++ 10 ∷ []))
    ≡ (a ++ (32 ∷ (b ++ (32 ∷ (c ++ (32 ∷ d)))))) ++ (32 ∷ (e ++ (32 ∷ (f ++ 10 ∷ []))))
properties_end a b c d e f = simp append_assoc

pub property_line_is : (raw : Raw) (start : List Tern) (rows : List (List Tern)) (t : ℕ) (cells : List Tern) → IsSound raw
    → HoldsAll raw start rows t cells → IsPropertyLine raw start rows t (property_line_text raw cells)
unfolding property_line_text line_text fields_text
property_line_is raw start rows t cells sound now =
    let a = map (λ x. literal_character cells x.lit) raw.latches in
    let b = map (literal_character cells) raw.inputs in
    let c = map (literal_character cells) raw.outputs in
    let d = map (λ x. literal_character cells x.next) raw.latches in
    let e = map (literal_character cells) raw.bad in
    let f = map (literal_character cells) raw.constraints in
    record {
      fields = a ++ (32 ∷ (b ++ (32 ∷ (c ++ (32 ∷ d)))));
      bad = e;
      constraints = f;
      fields_are = subst (λ (line : List ℕ). IsTraceLine raw start rows t line) (fields_end a b c d)
          (line_is raw start rows t cells sound now);
      bad_are = values_text raw start rows t cells sound raw.bad (λ i l at. now (variable l) (bad_defined raw sound i l at));
      constraints_are = values_text raw start rows t cells sound raw.constraints
          (λ i l at. now (variable l) (constraint_defined raw sound i l at));
      line_is = properties_end a b c d e f;
    }

-- ---- more rows
pub property_line_stays : (raw : Raw) (start : List Tern) (rows more : List (List Tern)) (t : ℕ) (line : List ℕ)
    → IsPropertyLine raw start rows t line → IsPropertyLine raw start (rows ++ more) t line
property_line_stays raw start rows more t line h = record {
  fields = h.fields;
  bad = h.bad;
  constraints = h.constraints;
  fields_are = line_stays raw start rows more t (h.fields ++ 10 ∷ []) h.fields_are;
  bad_are = values_stay raw start rows more t raw.bad h.bad h.bad_are;
  constraints_are = values_stay raw start rows more t raw.constraints h.constraints h.constraints_are;
  line_is = h.line_is;
}

-- one line more
pub property_trace_more : (raw : Raw) (start : List Tern) (rows : List (List Tern)) (row : List Tern) (trace line : List ℕ)
    → IsPropertyTrace raw start rows trace → IsPropertyLine raw start (rows ++ row ∷ []) (length rows) line
    → IsPropertyTrace raw start (rows ++ row ∷ []) (trace ++ line)
property_trace_more raw start rows row trace line h k =
    line_more (λ t line. IsPropertyLine raw start (rows ++ row ∷ []) t line) rows row trace line
    (lines_changed (λ t line. IsPropertyLine raw start rows t line)
    (λ t line. IsPropertyLine raw start (rows ++ row ∷ []) t line)
    (λ t line is. property_line_stays raw start rows (row ∷ []) t line is) (length rows) trace h)
    k
