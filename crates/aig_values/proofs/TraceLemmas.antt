-- A trace, line by line.
use Rattle.std.proofs.Common.{◌≡◌, ℕ, zero, suc, ◌+◌, ◌<◌, ◌≤◌, List, [], ◌∷◌, ◌++◌, length, map, flat_map, get_or}
use Rattle.std.proofs.Common.{take, Some, slice_get, refl, sym, ap, ◌∙◌, subst, arith, append_assoc, add-one}
use Rattle.std.specs.List.{AllZip}
use Rattle.std.proofs.lemmas.List.{append-nil, length_push, take_more, take_all}
use Rattle.std.proofs.lemmas.List.Concat.{flat_map-append}
use Rattle.aig_parts.specs.declared.ternary.Tern.{Tern}
use Rattle.aig_parts.specs.declared.latch.Latch.{Latch}
use Rattle.aig_parts.specs.declared.raw.Raw.{Raw}
use Rattle.aig_parts.specs.Literal.{variable}
use Rattle.aig_base.specs.Sound.{IsSound}
use Rattle.aig_base.specs.Value as value
use Rattle.aig_base.specs.Value.{Value, start_of, reset_value}
use Rattle.aig_base.proofs.circuits.Circuits.{input_defined, latch_defined, next_defined, output_defined}
use Rattle.aig_base.proofs.lists.Positions.{slice_get_left}
use Rattle.aig_values.specs.Cells.{literal_value}
use Rattle.aig_values.specs.state.Frame.{Holds, HoldsAll, AreStates}
use Rattle.aig_values.specs.InputRows.{row_at}
use Rattle.aig_values.specs.Trace.{AreValues, IsTraceLine, AreLinesBy, AreLines, IsTrace}
use Rattle.aig_values.specs.TraceText.{literal_character, fields_text, line_text, trace_text}
use Rattle.aig_values.proofs.Evaluation.{literal_has_value}

all_zip_of_map : {A B : Type 0} (R : A → B → Type 0) (f : A → B) (xs : List A)
    → ((i : ℕ) (x : A) → slice_get xs i ≡ Some x → R x (f x)) → AllZip R xs (map f xs)
all_zip_of_map R f [] h = tt
all_zip_of_map R f (x ∷ xs) h = (h 0 x refl, all_zip_of_map R f xs (λ i a p. h (suc i) a p))

all_zip_weaker : {A B : Type 0} (P Q : A → B → Type 0) → ((x : A) (y : B) → P x y → Q x y) → (xs : List A) (ys : List B)
    → AllZip P xs ys → AllZip Q xs ys
all_zip_weaker P Q f [] [] h = tt
all_zip_weaker P Q f [] (y ∷ ys) h = absurd h
all_zip_weaker P Q f (x ∷ xs) [] h = absurd h
all_zip_weaker P Q f (x ∷ xs) (y ∷ ys) h = (f x y h.0, all_zip_weaker P Q f xs ys h.1)

-- a value stays when rows are appended
pub value_stays : {raw : Raw} {start : List Tern} {rows : List (List Tern)}
    (more : List (List Tern)) {t l : ℕ} {w : Tern}
    → Value raw start rows t l w → Value raw start (rows ++ more) t l w
value_stays more (value.constant_false t) = value.constant_false t
value_stays more (value.constant_true t) = value.constant_true t
value_stays {rows} more (value.input t p l w row at here is) =
    value.input t p l w row at (slice_get_left rows more t row here) is
value_stays more (value.latch_first p x w at is) = value.latch_first p x w at is
value_stays more (value.latch_next t p x w at v) = value.latch_next t p x w at (value_stays more v)
value_stays more (value.gate t q g a b at va vb) = value.gate t q g a b at (value_stays more va) (value_stays more vb)
value_stays more (value.negated t l w lt odd v) = value.negated t l w lt odd (value_stays more v)

pub states_stay : (raw : Raw) (start : List Tern) (rows more : List (List Tern)) (t : ℕ) (states : List Tern)
    → AreStates raw start rows t states → AreStates raw start (rows ++ more) t states
states_stay raw start rows more t states h = record {
  each = all_zip_weaker (λ x w. Value raw start rows t x.lit w) (λ x w. Value raw start (rows ++ more) t x.lit w)
      (λ x w v. value_stays more v) raw.latches states h.each;
}

-- a cell that has a value keeps it when rows are appended
pub holds_still : {raw : Raw} {start : List Tern} {rows : List (List Tern)} {t : ℕ} {cells : List Tern}
    (more : List (List Tern)) → HoldsAll raw start rows t cells → HoldsAll raw start (rows ++ more) t cells
holds_still more h v d =
    record { cell = (h v d).cell; cell_is = (h v d).cell_is; value_is = value_stays more (h v d).value_is }

-- lists of one length, place by place
all_zip_from : {A B : Type 0} (R : A → B → Type 0) (xs : List A) (ys : List B) → length ys ≡ length xs
    → ((i : ℕ) (x : A) (y : B) → slice_get xs i ≡ Some x → slice_get ys i ≡ Some y → R x y) → AllZip R xs ys
all_zip_from R [] [] e h = tt
all_zip_from R [] (y ∷ ys) e h = absurd (omega (arith, e))
all_zip_from R (x ∷ xs) [] e h = absurd (omega (arith, e))
all_zip_from R (x ∷ xs) (y ∷ ys) e h =
    (h 0 x y refl refl, all_zip_from R xs ys (omega (arith, e)) (λ i a b p q. h (suc i) a b p q))

-- the states before the first frame
pub first_states : (raw : Raw) (start : List Tern) → length start ≡ length raw.latches → AreStates raw start [] 0 start
first_states raw start e = record {
  each = all_zip_from (λ x w. Value raw start [] 0 x.lit w) raw.latches start e
      (λ i x w at is. value.latch_first i x w at is);
}

pub last_row : (rows : List (List Tern)) (row : List Tern) → slice_get (rows ++ row ∷ []) (length rows) ≡ Some row
last_row [] row = refl
last_row (r ∷ rows) row = last_row rows row

module _ (raw : Raw) (start : List Tern) (rows : List (List Tern)) (t : ℕ) (sound : IsSound raw) where
  -- the latches' values after a frame
  pub next_states : (cells : List Tern) → HoldsAll raw start rows t cells
      → AreStates raw start rows (suc t) (map (λ x. literal_value cells x.next) raw.latches)
  next_states cells h = record {
    each = all_zip_of_map (λ x w. Value raw start rows (suc t) x.lit w) (λ x. literal_value cells x.next) raw.latches
        (λ i x at. value.latch_next t i x (literal_value cells x.next) at
        (literal_has_value raw start rows t cells x.next sound (h _ (next_defined raw sound i x at))));
  }

-- the bytes of a line, field by field
fields_are : (a b c d : List ℕ)
    → (a ++ 32 ∷ []) ++ ((b ++ 32 ∷ []) ++ ((c ++ 32 ∷ []) ++ (d ++ 10 ∷ [])))
    ≡ a ++ (32 ∷ (b ++ (32 ∷ (c ++ (32 ∷ (d ++ 10 ∷ []))))))
fields_are a b c d = simp append_assoc

module _ (raw : Raw) (start : List Tern) (rows : List (List Tern)) (t : ℕ) (cells : List Tern) (sound : IsSound raw) where
  pub values_text : (literals : List ℕ)
      → ((i l : ℕ) → slice_get literals i ≡ Some l → Holds raw start rows t cells (variable l))
      → AreValues raw start rows t literals (map (literal_character cells) literals)
  values_text [] h = tt
  values_text (l ∷ literals) h = (
    (literal_value cells l, literal_has_value raw start rows t cells l sound (h 0 l refl), refl),
    values_text literals (λ i k at. h (suc i) k at),
  )

  latches_text : (f : Latch → ℕ) (latches : List Latch)
      → ((i : ℕ) (x : Latch) → slice_get latches i ≡ Some x → Holds raw start rows t cells (variable (f x)))
      → AreValues raw start rows t (map f latches) (map (λ (x : Latch). literal_character cells (f x)) latches)
  latches_text f [] h = tt
  latches_text f (x ∷ latches) h = (
    (literal_value cells (f x), literal_has_value raw start rows t cells (f x) sound (h 0 x refl), refl),
    latches_text f latches (λ i y at. h (suc i) y at),
  )

  pub line_is : HoldsAll raw start rows t cells → IsTraceLine raw start rows t (line_text raw cells)
  unfolding line_text fields_text
  line_is now = record {
    state = map (λ x. literal_character cells x.lit) raw.latches;
    inputs = map (literal_character cells) raw.inputs;
    outputs = map (literal_character cells) raw.outputs;
    next = map (λ x. literal_character cells x.next) raw.latches;
    state_is = latches_text (λ x. x.lit) raw.latches (λ i x at. now (variable x.lit) (latch_defined raw i x at));
    inputs_are = values_text raw.inputs (λ i l at. now (variable l) (input_defined raw i l at));
    outputs_are = values_text raw.outputs (λ i l at. now (variable l) (output_defined raw sound i l at));
    next_is = latches_text (λ x. x.next) raw.latches (λ i x at. now (variable x.next) (next_defined raw sound i x at));
    line_is =
        fields_are (map (λ x. literal_character cells x.lit) raw.latches) (map (literal_character cells) raw.inputs)
        (map (literal_character cells) raw.outputs) (map (λ x. literal_character cells x.next) raw.latches);
  }

-- the lines of one more frame
lines_more : {X : Type 0} (f : X → List ℕ) (xs : List X) (n : ℕ) (d : X) → n < length xs
    → flat_map f (take (suc n) xs) ≡ flat_map f (take n xs) ++ f (get_or xs n d)
lines_more f xs n d lt =
    let e : suc n ≡ n + 1 = omega arith in
    ap (λ k. flat_map f (take k xs)) e ∙ ap (flat_map f) (take_more xs n d lt)
    ∙ flat_map-append f (take n xs) (get_or xs n d ∷ []) ∙ ap (λ (ys : List ℕ). flat_map f (take n xs) ++ ys)
    (append-nil (f (get_or xs n d)))

lines_are : (raw : Raw) (start : List Tern) (rows cells : List (List Tern)) → IsSound raw → (n : ℕ) → n ≤ length cells
    → ((t : ℕ) → t < n → HoldsAll raw start rows t (row_at cells t))
    → AreLines raw start rows n (flat_map (line_text raw) (take n cells))
lines_are raw start rows cells sound zero le h = refl
lines_are raw start rows cells sound (suc n) le h = (
  flat_map (line_text raw) (take n cells),
  line_text raw (row_at cells n),
  lines_are raw start rows cells sound n (omega arith) (λ t lt. h t (omega arith)),
  line_is raw start rows n (row_at cells n) sound (h n (omega arith)),
  lines_more (line_text raw) cells n [] (omega arith),
)

-- rows of cells that have the values of all frames spell the trace
pub trace_is : (raw : Raw) (start : List Tern) (rows cells : List (List Tern)) → IsSound raw
    → length cells ≡ length rows → ((t : ℕ) → t < length rows → HoldsAll raw start rows t (row_at cells t))
    → IsTrace raw start rows (trace_text raw cells)
trace_is raw start rows cells sound e h =
    let whole : take (length rows) cells ≡ cells = take_all (length rows) cells (omega arith) in
    subst (λ (xs : List (List Tern)). AreLines raw start rows (length rows) (flat_map (line_text raw) xs))
    whole (lines_are raw start rows cells sound (length rows) (omega arith) h)

-- ---- lines, whichever a frame has
pub lines_changed : (P Q : ℕ → List ℕ → Type 0) → ((t : ℕ) (line : List ℕ) → P t line → Q t line) → (n : ℕ) (text : List ℕ)
    → AreLinesBy P n text → AreLinesBy Q n text
lines_changed P Q f zero text h = h
lines_changed P Q f (suc n) text h = (h.0, h.1, lines_changed P Q f n h.0 h.2, f n h.1 h.3, h.4)

-- one line more
pub line_more : (P : ℕ → List ℕ → Type 0) (rows : List (List Tern)) (row : List Tern) (text line : List ℕ)
    → AreLinesBy P (length rows) text → P (length rows) line → AreLinesBy P (length (rows ++ row ∷ [])) (text ++ line)
line_more P rows row text line h k =
    subst (λ (n : ℕ). AreLinesBy P n (text ++ line)) (sym (add-one (length rows)) ∙ sym (length_push rows row))
    (text, line, h, k, refl)

-- ---- more rows
module _ (raw : Raw) (start : List Tern) (rows more : List (List Tern)) where
  pub values_stay : (t : ℕ) (ls bs : List ℕ) → AreValues raw start rows t ls bs → AreValues raw start (rows ++ more) t ls bs
  values_stay t [] [] h = tt
  values_stay t [] (b ∷ bs) h = absurd h
  values_stay t (l ∷ ls) [] h = absurd h
  values_stay t (l ∷ ls) (b ∷ bs) h = ((h.0.0, value_stays more h.0.1, h.0.2), values_stay t ls bs h.1)

  pub line_stays : (t : ℕ) (line : List ℕ) → IsTraceLine raw start rows t line → IsTraceLine raw start (rows ++ more) t line
  line_stays t line h = record {
    state = h.state;
    inputs = h.inputs;
    outputs = h.outputs;
    next = h.next;
    state_is = values_stay t (map (λ x. x.lit) raw.latches) h.state h.state_is;
    inputs_are = values_stay t raw.inputs h.inputs h.inputs_are;
    outputs_are = values_stay t raw.outputs h.outputs h.outputs_are;
    next_is = values_stay t (map (λ x. x.next) raw.latches) h.next h.next_is;
    line_is = h.line_is;
  }

  pub lines_stay : (t : ℕ) (text : List ℕ) → AreLines raw start rows t text → AreLines raw start (rows ++ more) t text
  lines_stay =
      lines_changed (λ t line. IsTraceLine raw start rows t line) (λ t line. IsTraceLine raw start (rows ++ more) t line) line_stays

-- one line more
pub trace_more : (raw : Raw) (start : List Tern) (rows : List (List Tern)) (row : List Tern) (trace line : List ℕ)
    → IsTrace raw start rows trace → IsTraceLine raw start (rows ++ row ∷ []) (length rows) line
    → IsTrace raw start (rows ++ row ∷ []) (trace ++ line)
trace_more raw start rows row trace line h k =
    line_more (λ t line. IsTraceLine raw start (rows ++ row ∷ []) t line) rows row trace line
    (lines_stay raw start rows (row ∷ []) (length rows) trace h) k
