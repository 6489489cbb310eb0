-- The examples of the definitions of `aig_bench` and `aig_script`.
use Rattle.std.proofs.Common.{◌≢◌, ◌≡◌, ◌⊎◌, inl, inr, ℕ, zero, suc, ◌≤◌, ◌<◌, List, [], ◌∷◌, length, Contains}
use Rattle.std.proofs.Common.{Some, refl}
use Rattle.std.proofs.Common.{sym, ap, ◌∙◌, arith}
use Rattle.std.specs.Prelude.{◌+◌, ◌*◌, ◌/◌, ◌%◌, ◌^◌, ◌++◌, drop, slice_index_or, Bool, true, Err, codes, slice_get}
use Rattle.std.specs.Fmt.{decimal, digits}
use Rattle.std.proofs.lemmas.Fmt.{decimal_by_steps}
use Rattle.aig_parts.specs.Literal.{variable}
use Rattle.aig_parts.specs.declared.gate.Gate.{Gate}
use Rattle.aig_parts.specs.declared.raw.Raw.{Raw}
use Rattle.aig_parts.specs.declared.ternary.Tern.{Tern}
use Rattle.aig_parts.specs.declared.ternary.Tern.TheVariants.{Zero, One}
use Rattle.aig_base.specs.Readers.{ReadsVariable}
use Rattle.aig_base.specs.Sections.{IsDefined}
use Rattle.aig_base.specs.Value as values
use Rattle.aig_base.specs.state.Marks.{IsMarked}
use Rattle.aig_values.specs.InputRows.{row_at}
use Rattle.aig_bench.specs.BenchState.{CircuitAndRows, HasValue}
use Rattle.aig_bench.specs.CurrentCells.{HasCurrentCells}
use Rattle.aig_bench.specs.Edit.{add_frame, append_gate, drop_frame, edit_fault_number, edited, rewire, set_bit}
use Rattle.aig_bench.specs.Edit.{set_output}
use Rattle.aig_bench.specs.Edit.{set_reset}
use Rattle.aig_bench.specs.Edit.{Edits, Forbids, IsLeastFault}
use Rattle.aig_bench.specs.Fanout.{HasFourReaders}
use Rattle.aig_bench.specs.Question.{ForbidsValue}
use Rattle.aig_bench.specs.Touched.{Changes, HasOther, IsOnce, Touches}
use Rattle.aig_bench.specs.state.Latches.{QueuesNextLatches}
use Rattle.aig_bench.specs.declared.edit.EditFault.{EditFault}
use Rattle.aig_bench.specs.declared.edit.EditFault.TheVariants as faults
use Rattle.aig_script.specs.Command.{command_text, edit, trace, unroll, value, IsNoCommand}
use Rattle.aig_script.specs.Lines.{lines_of, unfinished, whole}
use Rattle.aig_script.specs.ScriptLine.{KeepsScriptLine}
use Rattle.aig_sim.specs.declared.stimulus.row_parser.Shape.TheVariants.{Row}
use Rattle.aig_examples.proofs.TwoGates.{two_gates, row_11, second_in_11, six_in_11, eight_in_11, held_in_11}

-- `examples/two_gates.aag` and the row `11`
abbrev pair : CircuitAndRows
pair = record { circuit = two_gates; rows = row_11 }

-- literal 8 has value 1 at frame 0
value_of_eight : HasValue pair 0 8 One
value_of_eight = eight_in_11

-- one row, 0, 1, 1, 1, 1
current_cells : HasCurrentCells pair ((Zero ∷ One ∷ One ∷ One ∷ One ∷ []) ∷ [])
current_cells = record { rows = refl; values = cells_are }
  where
    cells_are : (t v : ℕ) → t < 1 → IsDefined two_gates v
        → (w : Tern) × (slice_get (row_at ((Zero ∷ One ∷ One ∷ One ∷ One ∷ []) ∷ []) t) v ≡ Some w)
        × HasValue pair t (2 * v) w
    cells_are zero v lt defined = let h = held_in_11 v defined in (h.cell, h.cell_is, h.value_is)
    cells_are (suc t) v lt defined = absurd (omega (arith, lt))

-- bit (0, 1) set to 0 gives the row `10`
bit_set : edited pair (set_bit 0 1 Zero) ≡ record { circuit = two_gates; rows = (One ∷ Zero ∷ []) ∷ [] }
bit_set = refl

-- at frame 3 it is fault 6 and the pair stays
bit_of_no_frame : (edit_fault_number faults.NoFrame ≡ 6)
    × Edits {A = Unit {0}} pair (set_bit 3 1 Zero) (Err faults.NoFrame) pair
bit_of_no_frame = (refl, (inl (omega arith, none), refl))
  where
    none : (g : EditFault) → edit_fault_number g < 6 → Forbids pair (set_bit 3 1 Zero) g → ⊥
    none faults.NotAGate lt h = h
    none faults.NotALatch lt h = h
    none faults.Range lt h = h
    none faults.Undefined lt h = h
    none faults.Cycle lt h = h
    none faults.NoFrame lt h = omega (arith, lt)
    none faults.NoInput lt h = omega (arith, lt)
    none faults.Length lt h = h
    none faults.Empty lt h = h
    none faults.Limit lt h = h
    none faults.Memory lt h = h
    none faults.NoOutput lt h = h

-- `append_gate 9 2` gives the gate `10 = 9 AND 2`
gate_appended : (edited pair (append_gate 9 2)).circuit.gates
    ≡ record { lhs = 8; rhs0 = 6; rhs1 = 2 } ∷ record { lhs = 6; rhs0 = 2; rhs1 = 4 }
    ∷ record { lhs = 10; rhs0 = 9; rhs1 = 2 } ∷ []
gate_appended = refl

-- literal 10 at frame 9: 3 before 6
fault_of_ten : (edit_fault_number faults.Range ≡ 3) × (edit_fault_number faults.NoFrame ≡ 6)
    × ForbidsValue pair 9 10 faults.NoFrame × IsLeastFault (ForbidsValue pair 9 10) faults.Range
fault_of_ten = (refl, refl, omega arith, ((λ within. omega (arith, within)), none))
  where
    none : (g : EditFault) → edit_fault_number g < 3 → ForbidsValue pair 9 10 g → ⊥
    none faults.NotAGate lt h = h
    none faults.NotALatch lt h = h
    none faults.Range lt h = omega (arith, lt)
    none faults.Undefined lt h = omega (arith, lt)
    none faults.Cycle lt h = h
    none faults.NoFrame lt h = omega (arith, lt)
    none faults.NoInput lt h = h
    none faults.Length lt h = h
    none faults.Empty lt h = h
    none faults.Limit lt h = h
    none faults.Memory lt h = h
    none faults.NoOutput lt h = h

-- bit (0, 1) set to 0 touches 6 and 8 and changes both
abbrev with_bit : CircuitAndRows
with_bit = edited pair (set_bit 0 1 Zero)

first_with_bit : HasValue with_bit 0 2 One
first_with_bit = values.Value.input 0 0 2 One (One ∷ Zero ∷ []) refl refl refl

second_with_bit : HasValue with_bit 0 4 Zero
second_with_bit = values.Value.input 0 1 4 Zero (One ∷ Zero ∷ []) refl refl refl

six_with_bit : HasValue with_bit 0 6 Zero
six_with_bit = values.Value.gate 0 1 (record { lhs = 6; rhs0 = 2; rhs1 = 4 }) One Zero refl
    first_with_bit second_with_bit

eight_with_bit : HasValue with_bit 0 8 Zero
eight_with_bit = values.Value.gate 0 0 (record { lhs = 8; rhs0 = 6; rhs1 = 2 }) Zero One refl
    six_with_bit first_with_bit

zero_is_other : Zero ≢ One
zero_is_other e = let no : ⊥ = cc in no

-- where 1 becomes 0, the value is another
other : (v : ℕ) → HasValue pair 0 (2 * v) One → HasValue with_bit 0 (2 * v) Zero → HasOther pair with_bit 0 v
other v before after = record {
  before = One;
  after = Zero;
  before_is = before;
  after_is = after;
  other = zero_is_other;
}

other_second : HasOther pair with_bit 0 2
other_second = other 2 second_in_11 second_with_bit

other_six : HasOther pair with_bit 0 3
other_six = other 3 six_in_11 six_with_bit

other_eight : HasOther pair with_bit 0 4
other_eight = other 4 eight_in_11 eight_with_bit

touched : Touches pair (set_bit 0 1 Zero) 0 3 × Touches pair (set_bit 0 1 Zero) 0 4
touched = (
  inr ((omega arith, omega arith), (1, record { lhs = 6; rhs0 = 2; rhs1 = 4 }, refl, refl, inr other_second)),
  inr ((omega arith, omega arith), (0, record { lhs = 8; rhs0 = 6; rhs1 = 2 }, refl, refl, inl other_six)),
)

changed : Changes pair (set_bit 0 1 Zero) 0 3 × Changes pair (set_bit 0 1 Zero) 0 4
changed = (
  ((1, omega arith, refl), (omega arith, omega arith), other_six),
  ((0, omega arith, refl), (omega arith, omega arith), other_eight),
)

-- a new gate 10 is touched at each frame
new_gate_touched : (t : ℕ) → t < length pair.rows → Touches pair (append_gate 9 2) t 5
new_gate_touched t lt = inl (lt, refl)

-- no variable of `examples/two_gates.aag` has a large fan-out
reader_is : (v w : ℕ) → ReadsVariable two_gates w v → (w ≡ 4) ⊎ (w ≡ 3)
reader_is v w (zero, g, is, lhs, side) =
    let f : record { lhs = 8; rhs0 = 6; rhs1 = 2 } ≡ g = cc in
    inl (sym lhs ∙ ap (λ (k : Gate). variable k.lhs) (sym f))
reader_is v w (suc zero, g, is, lhs, side) =
    let f : record { lhs = 6; rhs0 = 2; rhs1 = 4 } ≡ g = cc in
    inr (sym lhs ∙ ap (λ (k : Gate). variable k.lhs) (sym f))
reader_is v w (suc (suc q), g, is, lhs, side) = let no : ⊥ = cc in absurd no

no_large_fan_out : (v : ℕ) → HasFourReaders two_gates v → ⊥
no_large_fan_out v four =
    too_many four.readers four.once (λ w has. reader_is v w (four.each w has)) four.four
  where
    too_many : (xs : List ℕ) → IsOnce xs → ((w : ℕ) → Contains xs w → (w ≡ 4) ⊎ (w ≡ 3)) → 4 ≤ length xs → ⊥
    too_many [] once is le = omega (arith, le)
    too_many (a ∷ []) once is le = omega (arith, le)
    too_many (a ∷ b ∷ []) once is le = omega (arith, le)
    too_many (a ∷ b ∷ c ∷ xs) (not_a, (not_b, once)) is le =
        let ab : a ≡ b → ⊥ = (λ e. not_a (0, omega arith, sym e)) in
        let ac : a ≡ c → ⊥ = (λ e. not_a (1, omega arith, sym e)) in
        let bc : b ≡ c → ⊥ = (λ e. not_b (0, omega arith, sym e)) in
        elim (is a (0, omega arith, refl)) [
          | inl a4 ↦ elim (is b (1, omega arith, refl)) [
            | inl b4 ↦ ab (a4 ∙ sym b4)
            | inr b3 ↦ elim (is c (2, omega arith, refl)) [
              | inl c4 ↦ ac (a4 ∙ sym c4)
              | inr c3 ↦ bc (b3 ∙ sym c3)
            ]
          ]
          | inr a3 ↦ elim (is b (1, omega arith, refl)) [
            | inr b3 ↦ ab (a3 ∙ sym b3)
            | inl b4 ↦ elim (is c (2, omega arith, refl)) [
              | inl c4 ↦ bc (b4 ∙ sym c4)
              | inr c3 ↦ ac (a3 ∙ sym c3)
            ]
          ]
        ]

-- a latch whose next literal is 5 is listed where the cell of variable 2 changed
abbrev latch_of_five : Raw
latch_of_five = record two_gates { max_var = 5; latches = record { lit = 10; next = 5; reset = 0 } ∷ [] }

listed_latch : (row row' : List Tern) (marks marks' : List Bool)
    → QueuesNextLatches latch_of_five row marks row' marks' → slice_get row' 2 ≢ slice_get row 2 → IsMarked marks' 1
listed_latch row row' marks marks' queues other =
    queues.changed 1 2 (0, record { lit = 10; next = 5; reset = 0 }, refl, refl, refl) other

-- ---- scripts

-- `v 0 8` asks for literal 8 at frame 0; `u` for the unrolled circuit; `+ 10` appends the row `10`, `g 9 2` a gate with
-- the right sides 9 and 2
texts_of_commands : (command_text (value 0 8) ≡ codes "v 0 8") × (command_text unroll ≡ codes "u")
    × (command_text (edit (add_frame (One ∷ Zero ∷ []))) ≡ codes "+ 10")
    × (command_text (edit (append_gate 9 2)) ≡ codes "g 9 2")
unfolding digits
texts_of_commands = (refl, refl, refl, refl)

-- `v 00 8` is no command
abbrev LeadsBy : ℕ → List ℕ → Type 0
LeadsBy n bytes = (0 < length bytes) × (slice_index_or bytes 0 0 ≡ 48 → (n ≡ 0) × (length bytes ≡ 1))

leads : (n : ℕ) → n < 2 ^ 32 → LeadsBy n (decimal n)
leads n small = decimal_by_steps (λ m bytes. LeadsBy m bytes)
    (λ m lt. (omega arith, λ e. (omega (arith, e), refl))) step n (omega (arith, small))
  where
    step : (m : ℕ) (bytes : List ℕ) → 10 ≤ m → LeadsBy (m / 10) bytes → LeadsBy m (bytes ++ (48 + m % 10) ∷ [])
    step m [] ge h = let lt = h.0 in absurd (omega (arith, lt))
    step m (b ∷ bytes) ge h = (omega arith, λ e. let r = h.1 e in let z = r.0 in absurd (omega (arith, z, ge)))

no_leading_zero : (n : ℕ) (bytes rest text : List ℕ) → LeadsBy n bytes → 48 ∷ 48 ∷ text ≡ bytes ++ 32 ∷ rest → ⊥
no_leading_zero n [] rest text h e = let lt = h.0 in omega (arith, lt)
no_leading_zero n (b ∷ []) rest text h e =
    let second : 48 ≡ 32 = ap (λ (xs : List ℕ). slice_index_or xs 1 0) e in omega (arith, second)
no_leading_zero n (b ∷ c ∷ bytes) rest text h e =
    let first : 48 ≡ b = ap (λ (xs : List ℕ). slice_index_or xs 0 0) e in
    let r = h.1 (sym first) in
    let size = r.1 in omega (arith, size)

other_letter : (text : List ℕ) → codes "v 00 8" ≡ text → (slice_index_or text 0 0 ≡ 118 → ⊥) → ⊥
other_letter text e other = other (sym (ap (λ (xs : List ℕ). slice_index_or xs 0 0) e))

no_command : IsNoCommand (codes "v 00 8")
no_command (value t l) number e = no_leading_zero t (decimal t) (decimal l) (codes " 8") (leads t number.0)
    (ap (λ (xs : List ℕ). drop 2 xs) e)
no_command (edit (rewire lhs r0 r1)) number e = other_letter (command_text (edit (rewire lhs r0 r1))) e (λ f. omega (arith, f))
no_command (edit (set_reset latch w)) number e = other_letter (command_text (edit (set_reset latch w))) e (λ f. omega (arith, f))
no_command (edit (set_bit t p w)) number e = other_letter (command_text (edit (set_bit t p w))) e (λ f. omega (arith, f))
no_command (edit (add_frame row)) number e = other_letter (command_text (edit (add_frame row))) e (λ f. omega (arith, f))
no_command (edit drop_frame) number e = other_letter (command_text (edit drop_frame)) e (λ f. omega (arith, f))
no_command (edit (append_gate r0 r1)) number e = other_letter (command_text (edit (append_gate r0 r1))) e (λ f. omega (arith, f))
no_command (edit (set_output p l)) number e = other_letter (command_text (edit (set_output p l))) e (λ f. omega (arith, f))
no_command trace number e = other_letter (codes "t") e (λ f. omega (arith, f))
no_command unroll number e = other_letter (codes "u") e (λ f. omega (arith, f))

-- `t/v` is the whole line `t` and the last piece `v`
two_pieces : lines_of (codes "t\nv") ≡ whole (codes "t") ∷ unfinished (codes "v") ∷ []
two_pieces = refl

-- of `+ 10` the row `10` is kept
kept_row : KeepsScriptLine (codes "+ 10") (record {
  bytes = codes "+ 10";
  is_row = true;
  row = record { width = 2; shape = Row; values = One ∷ Zero ∷ []; room = 2 };
})
kept_row = record { keeps = (codes "10", refl, record { kept = (refl, omega arith) }) }
