-- The examples of the definitions of `aig_sim`.
use Rattle.std.proofs.Common.{◌++◌, ◌≡◌, ◌≢◌, ◌⊎◌, inl, inr, ℕ, zero, suc, ◌<◌, List, [], ◌∷◌, length, None, Some}
use Rattle.std.proofs.Common.{slice_get}
use Rattle.std.proofs.Common.{◌-◌, refl, sym, ap, ◌∙◌, arith}
use Rattle.std.specs.Prelude.{codes, drop, slice_index_or}
use Rattle.std.specs.Fmt.{digits}
use Rattle.std.proofs.lemmas.List.Elements.{All-cons, All-nil}
use Rattle.aig_parts.specs.declared.raw.Raw.{Raw}
use Rattle.aig_parts.specs.declared.ternary.Tern.{Tern}
use Rattle.aig_parts.specs.declared.ternary.Tern.TheVariants.{Zero, One, X}
use Rattle.aig_base.specs.Value as value
use Rattle.aig_base.specs.Value.{Value}
use Rattle.aig_names.specs.Names.{code_digits}
use Rattle.aig_values.specs.Trace.{IsTrace}
use Rattle.aig_sim.proofs.WitnessLemmas.{some_digits, zero_is_alone}
use Rattle.aig_sim.specs.Dump.{all_lines, changed_lines, IsFrameText}
use Rattle.aig_sim.specs.DumpRead.{lines_after, read_value, seen}
use Rattle.aig_sim.specs.Reached.{IsAskedFor, IsFirstReached, Reaches}
use Rattle.aig_sim.specs.Replayed.{ReportsRun}
use Rattle.aig_sim.specs.RowParser.{IsKept}
use Rattle.aig_sim.specs.StimulusText.{row_line, HasFaultyLine, IsCharacter}
use Rattle.aig_sim.specs.Verdict.{IsBefore, IsNotOne, IsVerdict, VerdictApplies}
use Rattle.aig_sim.specs.WitnessText as spelling
use Rattle.aig_sim.specs.WitnessText.{witness_rows_text, witness_text, SpellsWitness, Witness}
use Rattle.aig_sim.specs.declared.stimulus.fault.StimFault.TheVariants as stimuli
use Rattle.aig_sim.specs.declared.stimulus.row_parser.Shape.TheVariants.{Long}
use Rattle.aig_sim.specs.declared.witness.verdict.Verdict.{Verdict}
use Rattle.aig_sim.specs.declared.witness.verdict.Verdict.TheVariants as verdict
use Rattle.aig_sim.specs.state.Machine.{Steps}
use Rattle.aig_examples.proofs.TwoGates.{two_gates, held_in_11}

-- input 2 is bad
abbrev pub bad_input : Raw
bad_input = record {
  max_var = 1;
  inputs = 2 ∷ [];
  latches = [];
  outputs = [];
  bad = 2 ∷ [];
  constraints = [];
  justice = [];
  fairness = [];
  gates = [];
  symbols = [];
  comment = None;
}

-- ---- dumps

-- an input that is x and then 1: `x!` at frame 0, `1!` at frame 1
abbrev one_input : Raw
one_input = record bad_input { bad = [] }

abbrev rows_x_1 : List (List Tern)
rows_x_1 = (X ∷ []) ∷ (One ∷ []) ∷ []

dumped_frames : IsFrameText one_input [] rows_x_1 0 (codes "#0\n$dumpvars\nx!\n$end\n")
    × IsFrameText one_input [] rows_x_1 1 (codes "#1\n1!\n")
unfolding all_lines changed_lines code_digits digits
dumped_frames =
    let x = value.Value.input 0 0 2 X (X ∷ []) refl refl refl in
    let y = value.Value.input 1 0 2 One (One ∷ []) refl refl refl in (
      (codes "x", ((X, x, refl), tt), refl),
      (codes "x", codes "1", ((X, x, refl), tt), ((One, y, refl), tt), refl),
    )

-- `#0/1!/#1/0!/`: code `!` has 1 at time 0 and 0 at time 1
values_of_code : (read_value (codes "#0\n1!\n#1\n0!\n") (codes "!") 0 ≡ Some 49)
    × (read_value (codes "#0\n1!\n#1\n0!\n") (codes "!") 1 ≡ Some 48)
unfolding lines_after seen
values_of_code = (refl, refl)

-- ---- stimuli

-- of `11` in a stimulus of width 1: that it is too long
long_line : IsKept 1 (codes "11") Long []
long_line = (
  All-cons IsCharacter 49 (49 ∷ []) (inr (inl refl)) (All-cons IsCharacter 49 [] (inr (inl refl)) (All-nil _)),
  omega arith,
)

-- `11/1z/` of width 2 is one row and then `Char(2)`
faulty_line : HasFaultyLine 2 (codes "11\n1z\n") ((One ∷ One ∷ []) ∷ []) (stimuli.Char 2)
faulty_line = record {
  widths = All-cons (λ (row : List Tern). length row ≡ 2) (One ∷ One ∷ []) [] refl (All-nil _);
  line = codes "1z";
  rest = 10 ∷ [];
  no_end = All-cons (λ (b : ℕ). b ≢ 10) 49 (122 ∷ []) (λ e. omega (arith, e))
      (All-cons (λ (b : ℕ). b ≢ 10) 122 [] (λ e. omega (arith, e)) (All-nil _));
  text_is = refl;
  fault_is = (
    refl,
    ([], refl),
    λ all. elim (all 1 0 (omega arith)) [
      | inl e ↦ omega (arith, e)
      | inr (inl e) ↦ omega (arith, e)
      | inr (inr e) ↦ omega (arith, e)
    ],
  );
}

-- ---- witnesses

-- the value of literal 2 is the one in the row
in_row : {start : List Tern} {rows : List (List Tern)} {t l : ℕ} {w : Tern} → Value bad_input start rows t l w → l ≡ 2
    → (row : List Tern) × (slice_get rows t ≡ Some row) × (slice_get row 0 ≡ Some w)
in_row (value.Value.constant_false t) e = absurd (omega (arith, e))
in_row (value.Value.constant_true t) e = absurd (omega (arith, e))
in_row (value.Value.input t zero l w row at is cell) e = (row, is, cell)
in_row (value.Value.input t (suc p) l w row at is cell) e = let no : ⊥ = cc in absurd no
in_row (value.Value.latch_first p x w at is) e = let no : ⊥ = cc in absurd no
in_row (value.Value.latch_next t p x w at v) e = let no : ⊥ = cc in absurd no
in_row (value.Value.gate t q g a b at va vb) e = let no : ⊥ = cc in absurd no
in_row (value.Value.negated t l w over neg v) e = absurd (omega (arith, neg, e))

-- a witness of the property with these rows
abbrev pub with_rows : List (List Tern) → Witness
with_rows rows = record { property = 0; start = []; rows = rows }

-- `x` gives `NotBad`, `1` gives `Confirmed`
verdict_of_x : IsVerdict bad_input (with_rows ((X ∷ []) ∷ [])) verdict.NotBad
verdict_of_x = record {
  applies = record {
    literal = 2;
    value = X;
    literal_is = refl;
    value_is = value.Value.input 0 0 2 X (X ∷ []) refl refl refl;
    not_one = λ e. let no : ⊥ = cc in no;
  };
  first = none;
}
  where
    none : (u : Verdict) → IsBefore u verdict.NotBad → VerdictApplies bad_input (with_rows ((X ∷ []) ∷ [])) u → ⊥
    none (verdict.Initial p) lt h = let e = h.latch_is in cc
    none (verdict.Constraint t p) lt h = let e = h.1.literal_is in cc
    none verdict.NotBad lt h = omega (arith, lt)
    none verdict.Confirmed lt h = omega (arith, lt)

-- where the last row is 1, the witness is confirmed
pub confirmed_by : (rows : List (List Tern)) → slice_get rows (length rows - 1) ≡ Some (One ∷ [])
    → IsVerdict bad_input (with_rows rows) verdict.Confirmed
confirmed_by rows last = record { applies = tt; first = none }
  where
    none : (u : Verdict) → IsBefore u verdict.Confirmed → VerdictApplies bad_input (with_rows rows) u → ⊥
    none (verdict.Initial p) lt h = let e = h.latch_is in cc
    none (verdict.Constraint t p) lt h = let e = h.1.literal_is in cc
    none verdict.NotBad lt h =
        let e : 2 ≡ h.literal = cc in
        let (row, is, cell) = in_row h.value_is (sym e) in
        let f : One ∷ [] ≡ row = cc in
        let g : Some One ≡ Some h.value = ap (λ (r : List Tern). slice_get r 0) f ∙ cell in
        h.not_one cc
    none verdict.Confirmed lt h = omega (arith, lt)

verdict_of_1 : IsVerdict bad_input (with_rows ((One ∷ []) ∷ [])) verdict.Confirmed
verdict_of_1 = confirmed_by ((One ∷ []) ∷ []) refl

-- where the first row is not 1 and the second one is, frame 1 is the first
pub first_at_one : (a : Tern) → a ≢ One
    → IsFirstReached bad_input [] ((a ∷ []) ∷ (One ∷ []) ∷ (One ∷ []) ∷ []) None 1 0
first_at_one a other = record {
  asked_for = tt;
  reaches = record {
    frame = omega arith;
    property = omega arith;
    confirmed = confirmed_by ((a ∷ []) ∷ (One ∷ []) ∷ []) refl;
  };
  first = none;
}
  where
    not_at_first : IsNotOne bad_input (with_rows ((a ∷ []) ∷ [])) 0 (2 ∷ []) 0
    not_at_first = record {
      literal = 2;
      value = a;
      literal_is = refl;
      value_is = value.Value.input 0 0 2 a (a ∷ []) refl refl refl;
      not_one = other;
    }

    none : (u q : ℕ) → (u < 1) ⊎ ((u ≡ 1) × (q < 0)) → IsAskedFor None q
        → Reaches bad_input [] ((a ∷ []) ∷ (One ∷ []) ∷ (One ∷ []) ∷ []) u q → ⊥
    none zero zero before asked h = h.confirmed.first verdict.NotBad (omega arith) not_at_first
    none u (suc q) before asked h = let lt = h.property in omega (arith, lt)
    none (suc u) q (inl lt) asked h = omega (arith, lt)
    none (suc u) q (inr both) asked h = let lt = both.1 in omega (arith, lt)

-- of the rows `x`, `1`, `1` frame 1 is the first
first_reached : IsFirstReached bad_input [] ((X ∷ []) ∷ (One ∷ []) ∷ (One ∷ []) ∷ []) None 1 0
first_reached = first_at_one X (λ e. let no : ⊥ = cc in no)

-- `1/b0//x/./` is property 0, an empty start and the row `x`
spelled_x : SpellsWitness bad_input (codes "1\nb0\n\nx\n.\n") (with_rows ((X ∷ []) ∷ []))
spelled_x = record {
  start_is = refl;
  widths = All-cons (λ (row : List Tern). length row ≡ 1) (X ∷ []) [] refl (All-nil _);
  some = λ e. let no : ⊥ = cc in no;
  digits = codes "0";
  position = spelling.IsDecimal.digit 0 (omega arith);
  text_is = refl;
}

-- `1/b00//x/./` is none
no_leading_zero : (digits rest text : List ℕ) (n : ℕ) → spelling.IsDecimal digits n
    → digits ++ 10 ∷ rest ≡ 48 ∷ 48 ∷ text → ⊥
no_leading_zero [] rest text n h e = let lt = some_digits h in omega (arith, lt)
no_leading_zero (d ∷ []) rest text n h e =
    let second : 10 ≡ 48 = ap (λ (bytes : List ℕ). slice_index_or bytes 1 0) e in omega (arith, second)
no_leading_zero (d ∷ f ∷ more) rest text n h e =
    let first : d ≡ 48 = ap (λ (bytes : List ℕ). slice_index_or bytes 0 0) e in
    let alone = zero_is_alone h first in
    let size = alone.1 in omega (arith, size)

no_witness : (w : Witness) → SpellsWitness bad_input (codes "1\nb00\n\nx\n.\n") w → ⊥
no_witness w s = no_leading_zero s.digits (row_line w.start ++ witness_rows_text w.rows) (codes "\n\nx\n.\n") w.property
    s.position (sym (ap (λ (bytes : List ℕ). drop 3 bytes) s.text_is))

-- of `1/b0//x/./` the trace is ` x  /`, though its verdict is `NotBad`
replayed_x : ReportsRun (λ raw start rows text. IsTrace raw start rows text) bad_input (codes "1\nb0\n\nx\n.\n")
    (codes " x  \n")
replayed_x = record {
  witness = with_rows ((X ∷ []) ∷ []);
  spells = spelled_x;
  admitted = (omega arith, omega arith);
  reported_is = (
    [],
    codes " x  \n",
    refl,
    record {
      state = [];
      inputs = codes "x";
      outputs = [];
      next = [];
      state_is = tt;
      inputs_are = ((X, value.Value.input 0 0 2 X (X ∷ []) refl refl refl, refl), tt);
      outputs_are = tt;
      next_is = tt;
      line_is = refl;
    },
    refl,
  );
}

-- after frame 0 of `1/b0/0///./` the rest is `/./`
rest_of_two_frames : (witness_text (codes "0") (Zero ∷ []) ([] ∷ [] ∷ []) ≡ codes "1\nb0\n0\n\n\n.\n")
    × (witness_rows_text (drop 1 ([] ∷ [] ∷ [])) ≡ codes "\n.\n")
rest_of_two_frames = (refl, refl)

-- after frame 0 of `1/b0//x/./` the rest is `./`
rest_of_one_frame : (witness_text (codes "0") [] ((X ∷ []) ∷ []) ≡ codes "1\nb0\n\nx\n.\n")
    × (witness_rows_text (drop 1 ((X ∷ []) ∷ [])) ≡ codes ".\n")
rest_of_one_frame = (refl, refl)

-- the cells 0, 1, 1, 1, 1 are those after the step `11`
step_of_11 : Steps two_gates [] [] (One ∷ One ∷ []) (Zero ∷ One ∷ One ∷ One ∷ One ∷ []) []
step_of_11 = record { cells_are = held_in_11; states_are = record { each = tt } }
