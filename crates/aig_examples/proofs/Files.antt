-- The examples of the definitions of `aig_format`.
use Rattle.std.proofs.Common.{◌≡◌, ℕ, ◌+◌, ◌≤◌, ◌<◌, List, [], ◌∷◌, None}
use Rattle.std.proofs.Common.{refl, sym, arith}
use Rattle.std.specs.Prelude.{codes, true, Ok, length, All}
use Rattle.std.specs.Fmt.{digits}
use Rattle.std.proofs.lemmas.List.Elements.{All-cons, All-from_recursion, All-nil}
use Rattle.aig_parts.specs.declared.fault.Fault.{Fault}
use Rattle.aig_parts.specs.declared.fault.Fault.TheVariants as faults
use Rattle.aig_parts.specs.declared.latch.Latch.{Latch}
use Rattle.aig_parts.specs.declared.raw.Raw.{Raw}
use Rattle.aig_parts.specs.Formed.{limit}
use Rattle.aig_base.specs.FirstFault.{fault_order, FaultApplies, IsFirstFault}
use Rattle.aig_format.specs.Delta.{delta, groups}
use Rattle.aig_format.specs.Formats.{IsInFormat}
use Rattle.aig_format.specs.Header.{header_line, tail}
use Rattle.aig_format.specs.Spelling.{WrittenZeros, ascii, lines, names_text, no_zeros, property_lines, short_ascii}
use Rattle.aig_format.specs.Spells.{HasSpelling, HasWrongCounts, Spells, greatest}
use Rattle.aig_format.specs.declared.reader.header.Format.TheVariants.{Ascii}
use Rattle.aig_format.proofs.SmallNumbers.{AreSmall, in_all}
use Rattle.aig_format.specs.state.Reading.{digit_at, digits_at, number_at, number_then}

-- 300 is `ac 02`
delta_of_300 : delta 300 ≡ 0xac ∷ 0x02 ∷ []
unfolding delta groups
delta_of_300 = refl

-- `number_at` of `12 x` is 12, with ` x` left; the greatest number is any that is no less than 12, as 100
number_at_front : number_at 100 (codes "12 x") ≡ Ok (12, codes " x")
unfolding digit_at digits_at number_at number_then
number_at_front = refl

-- `aag 1 2 0 0 0/` is wrong: two inputs want two variables
two_inputs_of_one : HasWrongCounts (codes "aag 1 2 0 0 0\n")
unfolding digits header_line tail
two_inputs_of_one = record {
  format = Ascii;
  counts = 1 ∷ 2 ∷ 0 ∷ 0 ∷ 0 ∷ 0 ∷ 0 ∷ 0 ∷ 0 ∷ [];
  nine = refl;
  within = All-from_recursion (λ n. n ≤ limit) (1 ∷ 2 ∷ 0 ∷ 0 ∷ 0 ∷ 0 ∷ 0 ∷ 0 ∷ 0 ∷ []) (
    omega arith,
    (omega arith, (omega arith, (omega arith, (omega arith, (omega arith, (omega arith, (omega arith, (omega arith, tt)))))))),
  );
  least = 0;
  rest = [];
  spelled = refl;
  wrong = refl;
}

-- parts that have inputs, latches and outputs alone
abbrev parts : ℕ → List ℕ → List Latch → List ℕ → Raw
parts m inputs latches outputs = record {
  max_var = m;
  inputs = inputs;
  latches = latches;
  outputs = outputs;
  bad = [];
  constraints = [];
  justice = [];
  fairness = [];
  gates = [];
  symbols = [];
  comment = None;
}

-- where they are few and small, and there is room for what is defined, they have a spelling
few_have_spelling : (m : ℕ) (inputs : List ℕ) (latches : List Latch) (outputs : List ℕ) → m ≤ 9 → length inputs ≤ 9
    → length latches ≤ 9 → length outputs ≤ 9 → AreSmall inputs
    → All (λ x. (x.lit ≤ greatest) × (x.next ≤ greatest) × (x.reset ≤ greatest)) latches → AreSmall outputs
    → length inputs + length latches + 0 ≤ m → HasSpelling (parts m inputs latches outputs)
few_have_spelling m inputs latches outputs few_m few_i few_l few_o small_i small_l small_o room = record {
  formed = record {
    counts = record {
      max_var = omega (arith, few_m);
      inputs = omega (arith, few_i);
      latches = omega (arith, few_l);
      outputs = omega (arith, few_o);
      bad = omega arith;
      constraints = omega arith;
      justice = omega arith;
      fairness = omega arith;
      gates = omega arith;
      justice_literals = omega arith;
    };
    symbols = All-nil _;
    names = λ i j d lt within. absurd (omega (arith, within));
  };
  numbers = in_all (parts m inputs latches outputs) (record {
    inputs = small_i;
    latches = small_l;
    outputs = small_o;
    bad = All-nil _;
    constraints = All-nil _;
    justice = All-nil _;
    fairness = All-nil _;
    gates = All-nil _;
  });
  room = room;
}

-- one number that is small
small_alone : (l : ℕ) → l ≤ greatest → AreSmall (l ∷ [])
small_alone l small = All-cons (λ n. n ≤ greatest) l [] small (All-nil _)

-- `aag 1 0 1 0 0 0 0/2 2 0/` has the short spelling `aag 1 0 1 0 0/2 2/`
abbrev one_latch : Raw
one_latch = parts 1 [] (record { lit = 2; next = 2; reset = 0 } ∷ []) []

abbrev written_zeros : WrittenZeros
written_zeros = record { counts = 2; resets = true ∷ [] }

long_spelling : ascii written_zeros one_latch ≡ codes "aag 1 0 1 0 0 0 0\n2 2 0\n"
unfolding ascii digits header_line lines names_text property_lines tail
long_spelling = refl

short_spelling : short_ascii one_latch ≡ codes "aag 1 0 1 0 0\n2 2\n"
unfolding ascii digits header_line lines names_text property_lines tail
short_spelling = refl

-- both spell the same latch
one_latch_has_spelling : HasSpelling one_latch
one_latch_has_spelling = few_have_spelling 1 [] (record { lit = 2; next = 2; reset = 0 } ∷ []) [] (omega arith)
    (omega arith) (omega arith) (omega arith) (All-nil _)
    (All-cons (λ (x : Latch). (x.lit ≤ greatest) × (x.next ≤ greatest) × (x.reset ≤ greatest))
    (record { lit = 2; next = 2; reset = 0 }) [] (omega arith, omega arith, omega arith) (All-nil _))
    (All-nil _) (omega arith)

both_spell : Spells (codes "aag 1 0 1 0 0 0 0\n2 2 0\n") one_latch × Spells (codes "aag 1 0 1 0 0\n2 2\n") one_latch
both_spell = (
  (one_latch_has_spelling, (Ascii, (written_zeros, sym long_spelling))),
  (one_latch_has_spelling, (Ascii, (no_zeros, sym short_spelling))),
)

-- `aag 0 0 0 0 0/` is in the text format
empty_circuit : IsInFormat Ascii (codes "aag 0 0 0 0 0\n") (parts 0 [] [] [])
unfolding ascii digits header_line lines names_text property_lines tail
empty_circuit = (
  few_have_spelling 0 [] [] [] (omega arith) (omega arith) (omega arith) (omega arith) (All-nil _) (All-nil _)
      (All-nil _) (omega arith),
  (no_zeros, refl),
)

-- `aag 1 1 0 1 0/2/4/` is spelled, and `Range` is its first fault
abbrev output_of_four : Raw
output_of_four = parts 1 (2 ∷ []) [] (4 ∷ [])

four_is_spelled : Spells (codes "aag 1 1 0 1 0\n2\n4\n") output_of_four
unfolding ascii digits header_line lines names_text property_lines tail
four_is_spelled = (
  few_have_spelling 1 (2 ∷ []) [] (4 ∷ []) (omega arith) (omega arith) (omega arith) (omega arith)
      (small_alone 2 (omega arith)) (All-nil _) (small_alone 4 (omega arith)) (omega arith),
  (Ascii, (no_zeros, refl)),
)

four_is_over_range : IsFirstFault output_of_four faults.Range
four_is_over_range = record { applies = (1, 4, omega arith, refl, omega arith); first = none }
  where
    none : (g : Fault) → fault_order g < 4 → FaultApplies output_of_four g → ⊥
    none (faults.Text at) lt h = h
    none faults.Limit lt h = h
    none faults.Counts lt h = h
    none faults.Range lt h = omega (arith, lt)
    none faults.Definition lt h = omega (arith, lt)
    none (faults.Redefined v) lt h = omega (arith, lt)
    none (faults.Undefined v) lt h = omega (arith, lt)
    none (faults.Reset v) lt h = omega (arith, lt)
    none (faults.Cycle v) lt h = omega (arith, lt)
    none faults.Memory lt h = h
    none faults.Io lt h = h
