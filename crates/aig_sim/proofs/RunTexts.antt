-- Each run has a trace, with properties too, and a dump: a text of its first frames goes on to one of all.
use Rattle.std.proofs.Common.{◌≡◌, ℕ, zero, suc, ◌+◌, ◌-◌, ◌<◌, ◌≤◌, List, [], ◌∷◌, ◌++◌, length, map, take, drop, Some}
use Rattle.std.proofs.Common.{slice_get, refl, sym, subst, arith, append_assoc}
use Rattle.std.proofs.lemmas.List.{append-nil, take-append-drop, length-take-le}
use Rattle.std.proofs.lemmas.List.Elements.{All-contains}
use Rattle.aig_parts.specs.declared.ternary.Tern.{Tern}
use Rattle.aig_parts.specs.declared.latch.Latch.{Latch}
use Rattle.aig_parts.specs.declared.raw.Raw.{Raw}
use Rattle.aig_parts.specs.Literal.{variable}
use Rattle.aig_base.specs.Circuit.{IsCircuit}
use Rattle.aig_base.specs.Sections.{IsDefined}
use Rattle.aig_base.specs.Value.{Fits}
use Rattle.aig_base.proofs.circuits.Circuits.{input_defined, latch_defined, next_defined, output_defined}
use Rattle.aig_base.proofs.values.OneValue.{exists_value}
use Rattle.aig_base.proofs.lists.Positions.{Contains-from_slice_get}
use Rattle.aig_sim.specs.Dump.{signals, first_text, next_text, IsFrameText, AreFrames}
use Rattle.aig_sim.specs.state.Dumping.{AreDumped}
use Rattle.aig_values.specs.Characters.{character}
use Rattle.aig_values.specs.PropertyTrace.{IsPropertyLine, IsPropertyTrace}
use Rattle.aig_values.specs.Trace.{AreValues, IsTraceLine, AreLinesBy, IsTrace}
use Rattle.aig_sim.proofs.DumpFrames.{signals_defined, frames_stay}
use Rattle.aig_values.proofs.PropertyLines.{bad_defined, constraint_defined, property_line_stays}
use Rattle.aig_values.proofs.TraceLemmas.{line_stays, lines_changed}

fields_end : (a b c d : List ℕ)
    → (a ++ (32 ∷ (b ++ (32 ∷ (c ++ (32 ∷ d)))))) ++ 10 ∷ [] ≡ a ++ (32 ∷ (b ++ (32 ∷ (c ++ (32 ∷ (d ++ 10 ∷ []))))))
fields_end a b c d = simp append_assoc

module _ (raw : Raw) (circuit : IsCircuit raw) (start : List Tern) (rows : List (List Tern)) (fits : Fits raw start rows) where
  -- ---- one frame
  values_of : (t : ℕ) → t < length rows → (literals : List ℕ)
      → ((i l : ℕ) → slice_get literals i ≡ Some l → IsDefined raw (variable l))
      → (text : List ℕ) × AreValues raw start rows t literals text
  values_of t lt [] h = ([], tt)
  values_of t lt (l ∷ literals) h =
      let (w, v) = exists_value raw start rows circuit.sound circuit.acyclic fits t lt l (h 0 l refl) in
      let (text, values) = values_of t lt literals (λ i k at. h (suc i) k at) in
      (character w ∷ text, ((w, v, refl), values))

  latch_values : (t : ℕ) → t < length rows → (f : Latch → ℕ) (latches : List Latch)
      → ((i : ℕ) (x : Latch) → slice_get latches i ≡ Some x → IsDefined raw (variable (f x)))
      → (text : List ℕ) × AreValues raw start rows t (map f latches) text
  latch_values t lt f [] h = ([], tt)
  latch_values t lt f (x ∷ latches) h =
      let (w, v) = exists_value raw start rows circuit.sound circuit.acyclic fits t lt (f x) (h 0 x refl) in
      let (text, values) = latch_values t lt f latches (λ i y at. h (suc i) y at) in
      (character w ∷ text, ((w, v, refl), values))

  fields_of : (t : ℕ) → t < length rows → (fields : List ℕ) × IsTraceLine raw start rows t (fields ++ 10 ∷ [])
  fields_of t lt =
      let (state, state_is) = latch_values t lt (λ x. x.lit) raw.latches (λ i x at. latch_defined raw i x at) in
      let (inputs, inputs_are) = values_of t lt raw.inputs (λ i l at. input_defined raw i l at) in
      let (outputs, outputs_are) = values_of t lt raw.outputs (λ i l at. output_defined raw circuit.sound i l at) in
      let (next, next_is) =
      latch_values t lt (λ x. x.next) raw.latches (λ i x at. next_defined raw circuit.sound i x at) in (
        state ++ (32 ∷ (inputs ++ (32 ∷ (outputs ++ (32 ∷ next))))),
        record {
          state = state;
          inputs = inputs;
          outputs = outputs;
          next = next;
          state_is = state_is;
          inputs_are = inputs_are;
          outputs_are = outputs_are;
          next_is = next_is;
          line_is = fields_end state inputs outputs next;
        },
      )

  line_of : (t : ℕ) → t < length rows → (line : List ℕ) × IsTraceLine raw start rows t line
  line_of t lt = let (fields, is) = fields_of t lt in (fields ++ 10 ∷ [], is)

  property_line_of : (t : ℕ) → t < length rows → (line : List ℕ) × IsPropertyLine raw start rows t line
  property_line_of t lt =
      let (fields, is) = fields_of t lt in
      let (bad, bad_are) = values_of t lt raw.bad (λ i l at. bad_defined raw circuit.sound i l at) in
      let (constraints, constraints_are) =
      values_of t lt raw.constraints (λ i l at. constraint_defined raw circuit.sound i l at) in (
        fields ++ (32 ∷ (bad ++ (32 ∷ (constraints ++ 10 ∷ [])))),
        record {
          fields = fields;
          bad = bad;
          constraints = constraints;
          fields_are = is;
          bad_are = bad_are;
          constraints_are = constraints_are;
          line_is = refl;
        },
      )

  signal_values : (t : ℕ) → t < length rows → (text : List ℕ) × AreValues raw start rows t (signals raw) text
  signal_values t lt =
      values_of t lt (signals raw)
      (λ i l at. All-contains (λ l. IsDefined raw (variable l)) (signals raw) l (signals_defined raw circuit.sound)
      (Contains-from_slice_get (signals raw) i l at))

  frame_of : (t : ℕ) → t < length rows → (text : List ℕ) × IsFrameText raw start rows t text
  frame_of zero lt = let (cs, values) = signal_values zero lt in (first_text cs, (cs, values, refl))
  frame_of (suc t) lt =
      let (bs, before) = signal_values t (omega arith) in
      let (cs, values) = signal_values (suc t) lt in
      (next_text (suc t) bs cs, (bs, cs, before, values, refl))

  -- ---- frame after frame
  lines_on : (P : ℕ → List ℕ → Type 0) → ((t : ℕ) → t < length rows → (line : List ℕ) × P t line) → (t n : ℕ)
      (text : List ℕ) → t + n ≤ length rows → AreLinesBy P t text
      → (rest : List ℕ) × AreLinesBy P (t + n) (text ++ rest)
  lines_on P line_at t zero text le h =
      let same : t ≡ t + 0 = omega arith in (
        [],
        subst (λ (k : ℕ). AreLinesBy P k (text ++ [])) same
            (subst (λ (s : List ℕ). AreLinesBy P t s) (sym (append-nil text)) h),
      )
  lines_on P line_at t (suc n) text le h =
      let (rest, before) = lines_on P line_at t n text (omega arith) h in
      let (line, is) = line_at (t + n) (omega arith) in
      let next : suc (t + n) ≡ t + suc n = omega arith in (
        rest ++ line,
        subst (λ (k : ℕ). AreLinesBy P k (text ++ (rest ++ line))) next
            (text ++ rest, line, before, is, sym (append_assoc text rest line)),
      )

  frames_on : (t n : ℕ) (text : List ℕ) → t + n ≤ length rows → AreFrames raw start rows t text
      → (rest : List ℕ) × AreFrames raw start rows (t + n) (text ++ rest)
  frames_on t zero text le h =
      let same : t ≡ t + 0 = omega arith in (
        [],
        subst (λ (k : ℕ). AreFrames raw start rows k (text ++ [])) same
            (subst (λ (s : List ℕ). AreFrames raw start rows t s) (sym (append-nil text)) h),
      )
  frames_on t (suc n) text le h =
      let (rest, before) = frames_on t n text (omega arith) h in
      let (frame, is) = frame_of (t + n) (omega arith) in
      let next : suc (t + n) ≡ t + suc n = omega arith in (
        rest ++ frame,
        subst (λ (k : ℕ). AreFrames raw start rows k (text ++ (rest ++ frame))) next
            (text ++ rest, frame, before, is, sym (append_assoc text rest frame)),
      )

  -- ---- from the first rows to all
  lines_go_on : (P : List (List Tern) → ℕ → List ℕ → Type 0)
      → ((some more : List (List Tern)) (t : ℕ) (line : List ℕ) → P some t line → P (some ++ more) t line)
      → ((t : ℕ) → t < length rows → (line : List ℕ) × P rows t line) → (t : ℕ) (text : List ℕ) → t ≤ length rows
      → AreLinesBy (P (take t rows)) (length (take t rows)) text
      → (rest : List ℕ) × AreLinesBy (P rows) (length rows) (text ++ rest)
  lines_go_on P stays line_at t text le h =
      let n = length rows - t in
      let so_far : AreLinesBy (P rows) t text = subst (λ (k : ℕ). AreLinesBy (P rows) k text) (length-take-le t rows le)
      (subst (λ (rs : List (List Tern)). AreLinesBy (P rs) (length (take t rows)) text) (take-append-drop t rows)
      (lines_changed (P (take t rows)) (P (take t rows ++ drop t rows)) (stays (take t rows) (drop t rows))
      (length (take t rows)) text h)) in
      let (rest, all) = lines_on (P rows) line_at t n text (omega (arith, le)) so_far in
      let whole : t + n ≡ length rows = omega (arith, le) in
      (rest, subst (λ (k : ℕ). AreLinesBy (P rows) k (text ++ rest)) whole all)

  pub trace_goes_on : (t : ℕ) (text : List ℕ) → t ≤ length rows → IsTrace raw start (take t rows) text
      → (rest : List ℕ) × IsTrace raw start rows (text ++ rest)
  trace_goes_on =
      lines_go_on (λ rs t line. IsTraceLine raw start rs t line) (λ rs more. line_stays raw start rs more) line_of

  pub properties_go_on : (t : ℕ) (text : List ℕ) → t ≤ length rows → IsPropertyTrace raw start (take t rows) text
      → (rest : List ℕ) × IsPropertyTrace raw start rows (text ++ rest)
  properties_go_on =
      lines_go_on (λ rs t line. IsPropertyLine raw start rs t line) (λ rs more. property_line_stays raw start rs more)
      property_line_of

  pub dump_goes_on : (t : ℕ) (text : List ℕ) → t ≤ length rows → AreDumped raw start (take t rows) text
      → (rest : List ℕ) × AreDumped raw start rows (text ++ rest)
  dump_goes_on t text le h =
      let n = length rows - t in
      let so_far : AreFrames raw start rows t text = subst (λ (k : ℕ). AreFrames raw start rows k text) (length-take-le t rows le)
      (subst (λ (rs : List (List Tern)). AreFrames raw start rs (length (take t rows)) text) (take-append-drop t rows)
      (frames_stay raw start (take t rows) (drop t rows) (length (take t rows)) text h)) in
      let (rest, all) = frames_on t n text (omega (arith, le)) so_far in
      let whole : t + n ≡ length rows = omega (arith, le) in
      (rest, subst (λ (k : ℕ). AreFrames raw start rows k (text ++ rest)) whole all)
