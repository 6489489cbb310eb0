-- The examples of the definitions of `aig_values`.
use Rattle.std.proofs.Common.{zero, inl, inr, List, subst, ◌≡◌, ℕ, suc, ◌+◌, ◌*◌, [], ◌∷◌, Some, slice_get, refl, arith}
use Rattle.std.specs.Prelude.{None, codes, map}
use Rattle.std.specs.Int.Bits.{bit_and}
use Rattle.aig_parts.specs.Literal.{variable}
use Rattle.aig_parts.specs.Ternary.{kleene_and}
use Rattle.aig_parts.specs.declared.gate.Gate.{Gate}
use Rattle.aig_parts.specs.declared.raw.Raw.{Raw}
use Rattle.aig_parts.specs.declared.ternary.Tern.TheVariants.{Zero, One, X}
use Rattle.aig_base.specs.Grounded as by
use Rattle.aig_base.specs.Sections.{IsGate}
use Rattle.aig_base.specs.Value as value
use Rattle.aig_base.specs.Value.{Value}
use Rattle.aig_values.specs.Cells.{literal_value, with_new_cell}
use Rattle.aig_values.specs.Characters.{character}
use Rattle.aig_values.specs.Codes.{bits_of}
use Rattle.aig_values.specs.Contiguous.{AreContiguous}
use Rattle.aig_values.specs.GateOrder.{IsGateOrder, IsSourceOrEarlier}
use Rattle.aig_values.specs.InputRows.{with_cell}
use Rattle.aig_values.specs.PropertyTrace.{IsPropertyTrace}
use Rattle.aig_values.specs.Trace.{IsTrace, IsTraceLine}
use Rattle.aig_values.specs.TraceText.{fields_text, line_text}
use Rattle.aig_values.specs.state.Frame.{HoldsAll}
use Rattle.aig_values.specs.state.LiteralCodes.{by_literal}
use Rattle.aig_values.specs.state.Padded.{IsPadded}
use Rattle.aig_values.specs.state.Words.{cell_in}
use Rattle.aig_examples.proofs.TwoGates.{two_gates, row_11, first_in_11, second_in_11, eight_in_11, held_in_11}

-- in the cells 0, 1, x literal 5 is x and literal 3 is 0; with a new cell they are 0, 1, x, x
cells_01x : (literal_value (Zero ∷ One ∷ X ∷ []) 5 ≡ X) × (literal_value (Zero ∷ One ∷ X ∷ []) 3 ≡ Zero)
    × (with_new_cell (Zero ∷ One ∷ X ∷ []) ≡ Zero ∷ One ∷ X ∷ X ∷ [])
cells_01x = (refl, refl, refl)

-- x is `x`, byte 120
character_of_x : (character X ≡ 120) × (codes "x" ≡ 120 ∷ [])
character_of_x = (refl, refl)

-- 11 and 01 have the AND 01: 1 AND x is x
and_of_codes : (bits_of One ≡ 3) × (bits_of X ≡ 1) × (kleene_and One X ≡ X) × (bit_and 3 1 ≡ 1)
and_of_codes = (refl, refl, refl, refl)

-- 4, 6, 8 from variable 2 on
contiguous_literals : AreContiguous 2 (4 ∷ 6 ∷ 8 ∷ [])
contiguous_literals = record { each = are }
  where
    are : (i l : ℕ) → slice_get (4 ∷ 6 ∷ 8 ∷ []) i ≡ Some l → l ≡ 2 * (2 + i)
    are zero l e = cc
    are (suc zero) l e = cc
    are (suc (suc zero)) l e = cc
    are (suc (suc (suc i))) l e = cc

-- the gate of 6, then that of 8
abbrev six_gate : Gate
six_gate = record { lhs = 6; rhs0 = 2; rhs1 = 4 }

abbrev eight_gate : Gate
eight_gate = record { lhs = 8; rhs0 = 6; rhs1 = 2 }

abbrev order : List Gate
order = six_gate ∷ eight_gate ∷ []

gate_order : IsGateOrder two_gates order
gate_order = record { known = known; complete = complete; ready0 = ready0; ready1 = ready1 }
  where
    known : (q : ℕ) (g : Gate) → slice_get order q ≡ Some g → (r : ℕ) × (slice_get two_gates.gates r ≡ Some g)
    known zero g e = (1, e)
    known (suc zero) g e = (0, e)
    known (suc (suc q)) g e = let no : ⊥ = cc in absurd no

    complete : (v : ℕ) → IsGate two_gates v
        → (q : ℕ) × (g : Gate) × (slice_get order q ≡ Some g) × (variable g.lhs ≡ v)
    complete v (zero, lt, is) = (1, eight_gate, refl, is)
    complete v (suc zero, lt, is) = (0, six_gate, refl, is)
    complete v (suc (suc k), lt, is) = absurd (omega (arith, lt))

    ready0 : (q : ℕ) (g : Gate) → slice_get order q ≡ Some g → IsSourceOrEarlier two_gates order q (variable g.rhs0)
    ready0 zero g e = let f : six_gate ≡ g = cc in
        subst (λ (k : Gate). IsSourceOrEarlier two_gates order 0 (variable k.rhs0)) f (inl (by.IsSource.input 0 2 refl))
    ready0 (suc zero) g e = let f : eight_gate ≡ g = cc in
        subst (λ (k : Gate). IsSourceOrEarlier two_gates order 1 (variable k.rhs0)) f
        (inr (0, six_gate, omega arith, refl, refl))
    ready0 (suc (suc q)) g e = let no : ⊥ = cc in absurd no

    ready1 : (q : ℕ) (g : Gate) → slice_get order q ≡ Some g → IsSourceOrEarlier two_gates order q (variable g.rhs1)
    ready1 zero g e = let f : six_gate ≡ g = cc in
        subst (λ (k : Gate). IsSourceOrEarlier two_gates order 0 (variable k.rhs1)) f (inl (by.IsSource.input 1 4 refl))
    ready1 (suc zero) g e = let f : eight_gate ≡ g = cc in
        subst (λ (k : Gate). IsSourceOrEarlier two_gates order 1 (variable k.rhs1)) f (inl (by.IsSource.input 0 2 refl))
    ready1 (suc (suc q)) g e = let no : ⊥ = cc in absurd no

-- at frame 0, place 1, value 0: `11` becomes `10`
row_with_cell : with_cell ((One ∷ One ∷ []) ∷ []) 0 1 Zero ≡ (One ∷ Zero ∷ []) ∷ []
row_with_cell = refl

-- with `11/` the trace is ` 11 1 /`
pub trace_of_11 : IsTrace two_gates [] row_11 (codes " 11 1 \n")
trace_of_11 = (
  [],
  codes " 11 1 \n",
  refl,
  record {
    state = [];
    inputs = codes "11";
    outputs = codes "1";
    next = [];
    state_is = tt;
    inputs_are = ((One, first_in_11, refl), ((One, second_in_11, refl), tt));
    outputs_are = ((One, eight_in_11, refl), tt);
    next_is = tt;
    line_is = refl;
  },
  refl,
)

-- input 2 is bad, and its negation a constraint: of `1/` the trace with properties is ` 1   1 0/`
abbrev own_constraint : Raw
own_constraint = record {
  max_var = 1;
  inputs = 2 ∷ [];
  latches = [];
  outputs = [];
  bad = 2 ∷ [];
  constraints = 3 ∷ [];
  justice = [];
  fairness = [];
  gates = [];
  symbols = [];
  comment = None;
}

input_is_one : Value own_constraint [] ((One ∷ []) ∷ []) 0 2 One
input_is_one = value.input 0 0 2 One (One ∷ []) refl refl refl

constraint_is_zero : Value own_constraint [] ((One ∷ []) ∷ []) 0 3 Zero
constraint_is_zero = value.negated 0 3 One (omega arith) (omega arith) input_is_one

properties_of_1 : IsTrace own_constraint [] ((One ∷ []) ∷ []) (codes " 1  \n")
    × IsPropertyTrace own_constraint [] ((One ∷ []) ∷ []) (codes " 1   1 0\n")
properties_of_1 = (
  ([], codes " 1  \n", refl, fields, refl),
  (
    [],
    codes " 1   1 0\n",
    refl,
    record {
      fields = codes " 1  ";
      bad = codes "1";
      constraints = codes "0";
      fields_are = fields;
      bad_are = ((One, input_is_one, refl), tt);
      constraints_are = ((Zero, constraint_is_zero, refl), tt);
      line_is = refl;
    },
    refl,
  ),
)
  where
    fields : IsTraceLine own_constraint [] ((One ∷ []) ∷ []) 0 (codes " 1  \n")
    fields = record {
      state = [];
      inputs = codes "1";
      outputs = [];
      next = [];
      state_is = tt;
      inputs_are = ((One, input_is_one, refl), tt);
      outputs_are = tt;
      next_is = tt;
      line_is = refl;
    }

-- the cells 0, 1, 1, 1, 1 give ` 11 1 /`
line_of_cells : line_text two_gates (Zero ∷ One ∷ One ∷ One ∷ One ∷ []) ≡ codes " 11 1 \n"
unfolding line_text fields_text
line_of_cells = refl

-- the cells 0, 1, 1, 1, 1 hold frame 0 with `11/`
held_frame : HoldsAll two_gates [] row_11 0 (Zero ∷ One ∷ One ∷ One ∷ One ∷ [])
held_frame = held_in_11

-- the cells 0, x by literal are 0, 1, x, x
cells_by_literal : by_literal (Zero ∷ X ∷ []) ≡ Zero ∷ One ∷ X ∷ X ∷ []
unfolding by_literal
cells_by_literal = refl

-- 0, 1, x, x is a row for two variables with room for four
padded_row : IsPadded 2 4 (Zero ∷ One ∷ X ∷ X ∷ [])
padded_row = (omega arith, refl)

-- the planes 1 and 6 begin with the cells 1, 0, 0, x
first_cells : map (cell_in (1 ∷ []) (6 ∷ [])) (0 ∷ 1 ∷ 2 ∷ 3 ∷ []) ≡ One ∷ Zero ∷ Zero ∷ X ∷ []
first_cells = refl
