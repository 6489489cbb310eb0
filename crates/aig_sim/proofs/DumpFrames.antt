-- The frames of a value change dump.
use Rattle.std.proofs.Common.{◌≡◌, ℕ, zero, suc, ◌-◌, ◌^◌, ◌<◌, ◌≤◌, min, List, [], ◌∷◌, ◌++◌, length, map, replicate}
use Rattle.std.proofs.Common.{All, Some, slice_get, refl, sym, ap, ◌∙◌, subst, arith, add-one}
use Rattle.std.specs.Prelude.{codes}
use Rattle.std.proofs.lemmas.List.{length_push}
use Rattle.std.proofs.lemmas.List.Elements.{All-nil, All-cons, All-append, All-contains}
use Rattle.aig_parts.specs.declared.ternary.Tern.{Tern}
use Rattle.aig_parts.specs.declared.latch.Latch.{Latch}
use Rattle.aig_parts.specs.declared.raw.Raw.{Raw}
use Rattle.aig_parts.specs.Literal.{variable}
use Rattle.aig_base.specs.Sections.{IsDefined}
use Rattle.aig_base.specs.Sound.{IsSound}
use Rattle.aig_base.proofs.circuits.Circuits.{input_defined, latch_defined, output_defined, input_in_range}
use Rattle.aig_base.proofs.circuits.Circuits.{latch_in_range, output_in_range}
use Rattle.aig_base.proofs.lists.Positions.{Contains-from_slice_get}
use Rattle.aig_sim.specs.Dump.{signals, changed_lines, first_text, next_text, IsFrameText, AreFrames}
use Rattle.aig_sim.specs.state.Dumping.{time_line, dumped_text, characters_of, AreLast, AreDumped}
use Rattle.aig_values.specs.state.Frame.{HoldsAll}
use Rattle.aig_values.specs.Trace.{AreValues}
use Rattle.aig_sim.proofs.DumpLemmas.{changed_first, later_frame}
use Rattle.aig_values.proofs.TraceLemmas.{values_stay, values_text}
use Rattle.aig_values.proofs.PropertyLines.{bad_defined, constraint_defined, bad_in_range, constraint_in_range}

-- ---- signals
each : (P : ℕ → Type 0) (ls : List ℕ) → ((i l : ℕ) → slice_get ls i ≡ Some l → P l) → All P ls
each P [] h = All-nil P
each P (l ∷ ls) h = All-cons P l ls (h 0 l refl) (each P ls (λ i k at. h (suc i) k at))

each_latch : (P : ℕ → Type 0) (xs : List Latch) → ((i : ℕ) (x : Latch) → slice_get xs i ≡ Some x → P x.lit)
    → All P (map (λ x. x.lit) xs)
each_latch P [] h = All-nil P
each_latch P (x ∷ xs) h =
    All-cons P x.lit (map (λ x. x.lit) xs) (h 0 x refl) (each_latch P xs (λ i y at. h (suc i) y at))

all_signals : (P : ℕ → Type 0) (raw : Raw) → ((i l : ℕ) → slice_get raw.inputs i ≡ Some l → P l)
    → ((i : ℕ) (x : Latch) → slice_get raw.latches i ≡ Some x → P x.lit)
    → ((i l : ℕ) → slice_get raw.outputs i ≡ Some l → P l) → ((i l : ℕ) → slice_get raw.bad i ≡ Some l → P l)
    → ((i l : ℕ) → slice_get raw.constraints i ≡ Some l → P l) → All P (signals raw)
all_signals P raw a b c d e =
    All-append P raw.inputs (map (λ x. x.lit) raw.latches ++ (raw.outputs ++ (raw.bad ++ raw.constraints))) (each P raw.inputs a)
    (All-append P (map (λ x. x.lit) raw.latches) (raw.outputs ++ (raw.bad ++ raw.constraints)) (each_latch P raw.latches b)
    (All-append P raw.outputs (raw.bad ++ raw.constraints) (each P raw.outputs c)
    (All-append P raw.bad raw.constraints (each P raw.bad d) (each P raw.constraints e))))

pub signals_defined : (raw : Raw) → IsSound raw → All (λ l. IsDefined raw (variable l)) (signals raw)
signals_defined raw sound =
    all_signals (λ l. IsDefined raw (variable l)) raw (λ i l at. input_defined raw i l at) (λ i x at. latch_defined raw i x at)
    (λ i l at. output_defined raw sound i l at) (λ i l at. bad_defined raw sound i l at)
    (λ i l at. constraint_defined raw sound i l at)

pub signals_in_range : (raw : Raw) → IsSound raw → All (λ l. variable l ≤ raw.max_var) (signals raw)
signals_in_range raw sound =
    all_signals (λ l. variable l ≤ raw.max_var) raw (λ i l at. input_in_range raw sound i l at)
    (λ i x at. latch_in_range raw sound i x at) (λ i l at. output_in_range raw sound i l at)
    (λ i l at. bad_in_range raw sound i l at) (λ i l at. constraint_in_range raw sound i l at)

-- the characters of a frame by its cells
pub signals_text : (raw : Raw) (start : List Tern) (rows : List (List Tern)) (t : ℕ) (cells : List Tern) → IsSound raw
    → HoldsAll raw start rows t cells → AreValues raw start rows t (signals raw) (characters_of raw cells)
signals_text raw start rows t cells sound holds =
    values_text raw start rows t cells sound (signals raw)
    (λ i l at. holds (variable l)
    (All-contains (λ l. IsDefined raw (variable l)) (signals raw) l (signals_defined raw sound)
    (Contains-from_slice_get (signals raw) i l at)))

-- ---- more rows
module _ (raw : Raw) (start : List Tern) (rows more : List (List Tern)) where
  frame_stays : (t : ℕ) (text : List ℕ) → IsFrameText raw start rows t text → IsFrameText raw start (rows ++ more) t text
  frame_stays zero text h = (h.0, values_stay raw start rows more zero (signals raw) h.0 h.1, h.2)
  frame_stays (suc t) text h = (
    h.0,
    h.1,
    values_stay raw start rows more t (signals raw) h.0 h.2,
    values_stay raw start rows more (suc t) (signals raw) h.1 h.3,
    h.4,
  )

  pub frames_stay : (t : ℕ) (text : List ℕ) → AreFrames raw start rows t text → AreFrames raw start (rows ++ more) t text
  frames_stay zero text h = h
  frames_stay (suc t) text h = (h.0, h.1, frames_stay t h.0 h.2, frame_stays t h.1 h.3, h.4)

-- ---- one frame more
first_dumped : (raw : Raw) (cells : List Tern) (frame : ℕ) (last : List ℕ) → frame ≡ 0
    → last ≡ replicate (length (signals raw)) 0
    → dumped_text frame last (characters_of raw cells) ≡ first_text (characters_of raw cells)
first_dumped raw cells frame last zero_is none =
    (λ i. dumped_text (zero_is i) (none i) (characters_of raw cells))
    ∙ ap (λ (lines : List ℕ). time_line 0 ++ (codes "$dumpvars\n" ++ (lines ++ codes "$end\n")))
    (changed_first 0 cells (signals raw))

later_dumped : (t frame : ℕ) (last cs : List ℕ) → frame ≡ min (suc t) (2 ^ 64 - 1)
    → dumped_text frame last cs ≡ next_text (suc t) last cs
later_dumped t frame last cs is =
    let some : 0 < frame = omega (arith, is) in
    sym (later_frame frame last cs some) ∙ ap (λ (n : ℕ). time_line n ++ changed_lines 0 last cs) is

frame_is : (raw : Raw) (start : List Tern) (rows : List (List Tern)) (row : List Tern) (cells : List Tern) (last : List ℕ)
    (n frame : ℕ) → frame ≡ min n (2 ^ 64 - 1) → AreLast raw start rows n last
    → AreValues raw start (rows ++ row ∷ []) n (signals raw) (characters_of raw cells)
    → IsFrameText raw start (rows ++ row ∷ []) n (dumped_text frame last (characters_of raw cells))
frame_is raw start rows row cells last zero frame is none values =
    (characters_of raw cells, values, first_dumped raw cells frame last (omega (arith, is)) none)
frame_is raw start rows row cells last (suc t) frame is kept values = (
  last,
  characters_of raw cells,
  values_stay raw start rows (row ∷ []) t (signals raw) last kept,
  values,
  later_dumped t frame last (characters_of raw cells) is,
)

pub dumped_more : (raw : Raw) (start : List Tern) (rows : List (List Tern)) (row : List Tern) (cells : List Tern)
    (last text : List ℕ) (frame : ℕ) → IsSound raw → AreDumped raw start rows text → AreLast raw start rows (length rows) last
    → HoldsAll raw start (rows ++ row ∷ []) (length rows) cells → frame ≡ min (length rows) (2 ^ 64 - 1)
    → AreDumped raw start (rows ++ row ∷ []) (text ++ dumped_text frame last (characters_of raw cells))
dumped_more raw start rows row cells last text frame sound dumped kept holds is =
    let rows' = rows ++ row ∷ [] in
    let piece = dumped_text frame last (characters_of raw cells) in
    subst (λ (n : ℕ). AreFrames raw start rows' n (text ++ piece)) (sym (add-one (length rows)) ∙ sym (length_push rows row)) (
      text,
      piece,
      frames_stay raw start rows (row ∷ []) (length rows) text dumped,
      frame_is raw start rows row cells last (length rows) frame is kept
          (signals_text raw start rows' (length rows) cells sound holds),
      refl,
    )

-- what is kept after it
pub last_more : (raw : Raw) (start : List Tern) (rows : List (List Tern)) (row : List Tern) (cells : List Tern) (last : List ℕ)
    → IsSound raw → HoldsAll raw start (rows ++ row ∷ []) (length rows) cells → last ≡ characters_of raw cells
    → AreLast raw start (rows ++ row ∷ []) (length (rows ++ row ∷ [])) last
last_more raw start rows row cells last sound holds is =
    let rows' = rows ++ row ∷ [] in
    subst (λ (n : ℕ). AreLast raw start rows' n last) (sym (add-one (length rows)) ∙ sym (length_push rows row))
    (subst (λ (cs : List ℕ). AreValues raw start rows' (length rows) (signals raw) cs) (sym is)
    (signals_text raw start rows' (length rows) cells sound holds))
