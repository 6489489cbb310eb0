-- The examples of the definitions of `aig_cnf` and `aig_refute`.
use Rattle.std.proofs.Common.{◌≡◌, ℕ, List, [], ◌∷◌, None, Some, refl}
use Rattle.std.specs.Prelude.{Bool, true, false, codes}
use Rattle.std.specs.Fmt.{digits}
use Rattle.aig_parts.specs.declared.latch.Latch.{Latch}
use Rattle.aig_parts.specs.declared.raw.Raw.{Raw}
use Rattle.aig_parts.specs.declared.symbols.Kind.TheVariants.{Bad}
use Rattle.aig_parts.specs.declared.ternary.Tern.TheVariants.{Zero, One, X}
use Rattle.aig_base.specs.Part.{part, picked, spread}
use Rattle.aig_base.specs.Renumbered.{renumbered, renumbered_literal, renumbered_variable}
use Rattle.aig_base.specs.Value as value
use Rattle.aig_values.specs.Trace.{IsTrace}
use Rattle.aig_unroll.specs.FrameLiteral.{frame_literal, latch_literal}
use Rattle.aig_unroll.specs.InputMap.{origin_lines, read_origins, start_origins, symbol_name_at}
use Rattle.aig_cnf.specs.Answers.{RefusesFormula}
use Rattle.aig_cnf.specs.CnfText.{read_text}
use Rattle.aig_cnf.specs.Dimacs.{clause_text, formula_text, literal_text, problem_line}
use Rattle.aig_cnf.specs.DimacsRead.{clauses_of, counts_of, found_in, literal_of, number, read_formula, signed}
use Rattle.aig_cnf.specs.Formula.{all_but_last, cone, formula_of, gate_clauses, goal_clauses, reset_literals}
use Rattle.aig_cnf.specs.Heading.{heading}
use Rattle.aig_cnf.specs.Query.{depth, induction, step, subject, uninitialised_latch, within}
use Rattle.aig_cnf.specs.ReadFormula.{marked, of_part}
use Rattle.aig_cnf.specs.ReadMap.{ReportsReadInputs}
use Rattle.aig_cnf.specs.declared.fault.CnfFault.TheVariants as faults
use Rattle.aig_cnf.specs.declared.heading.Heading.TheVariants.{Alive, Runs}
use Rattle.aig_cnf.specs.declared.query.Goal.TheVariants as goals
use Rattle.aig_refute.specs.Models.{tern_of, values_of}
use Rattle.aig_refute.specs.PartialModels.{named_rows}
use Rattle.aig_refute.specs.SpreadRun.{spread_rows}
use Rattle.aig_refute.specs.UnrolledWitness.{cut}
use Rattle.aig_examples.proofs.TwoGates.{two_gates, row_11, first_in_11, second_in_11, eight_in_11}

-- input 2 is bad
abbrev bad_input : Raw
bad_input = record {
  max_var = 1;
  inputs = 2 ∷ [];
  latches = [];
  outputs = [];
  bad = 2 ∷ [];
  constraints = [];
  justice = [];
  fairness = [];
  gates = [];
  symbols = [];
  comment = None;
}

-- the latch `2 3 0` is bad
abbrev bad_latch : Raw
bad_latch = record bad_input { inputs = []; latches = record { lit = 2; next = 3; reset = 0 } ∷ [] }

-- for 0 frames `NoFrames`, also of a property that is not there
no_frames : RefusesFormula bad_input (within 0 0) faults.NoFrames
    × RefusesFormula bad_input (within 0 7) faults.NoFrames
no_frames = (refl, refl)

-- input 2 is bad, within one frame
text_of_input : read_text bad_input (Runs (within 1 0))
    (record { cnf = formula_of bad_input [] (within 1 0); small = bad_input; marks = false ∷ true ∷ [] })
    ≡ codes "c aig cnf --frames 1 --property 0 \nc i 2 0 0 \nc b 2 0\np cnf 2 2\n-1 0\n2 0\n"
unfolding clause_text cone digits formula_text frame_literal literal_text origin_lines problem_line start_origins symbol_name_at
text_of_input = refl

-- the latch `2 3 0` is bad, step of one frame
text_of_step : read_text (subject goals.Step bad_latch) (Runs (step 1 0))
    (record { cnf = formula_of bad_latch [] (step 1 0); small = subject goals.Step bad_latch; marks = false ∷ true ∷ [] })
    ≡ codes "c aig cnf --step --frames 1 --property 0 \nc l 2 0 \nc b 2 0\nc b -2 1\np cnf 2 3\n-1 0\n-2 0\n-2 0\n"
unfolding clause_text cone digits formula_text frame_literal latch_literal literal_text origin_lines problem_line start_origins symbol_name_at
text_of_step = refl

-- the clause `7 2` is `-4 2 0`
text_of_clause : clause_text (7 ∷ 2 ∷ []) ≡ codes "-4 2 0\n"
unfolding clause_text digits literal_text
text_of_clause = refl

-- 3 variables, the count 2, the clauses `0 5` and `2 4 1`
two_clauses : read_formula (codes "p cnf 3 2\n1 -3 0 2\n3 -1 0\n") ≡ Some (3, 2, (0 ∷ 5 ∷ []) ∷ (2 ∷ 4 ∷ 1 ∷ []) ∷ [])
unfolding clauses_of counts_of found_in literal_of number signed
two_clauses = refl

-- the gate `6 2 4` has the clauses `7 2`, `7 4` and `6 3 5`
clauses_of_gate : gate_clauses (record { lhs = 6; rhs0 = 2; rhs1 = 4 })
    ≡ (7 ∷ 2 ∷ []) ∷ (7 ∷ 4 ∷ []) ∷ (6 ∷ 3 ∷ 5 ∷ []) ∷ []
clauses_of_gate = refl

-- for the literals 2 and 6: within two frames the clause `2 6`, for a step the clauses `3` and `6`
clauses_of_goals : (goal_clauses goals.Within [] (2 ∷ 6 ∷ []) ≡ (2 ∷ 6 ∷ []) ∷ [])
    × (goal_clauses goals.Step [] (2 ∷ 6 ∷ []) ≡ (3 ∷ []) ∷ (6 ∷ []) ∷ [])
clauses_of_goals = (refl, refl)

-- for the literals 2 and 6, and a latch of variable 4 whose reset is 1: the clauses `2 6` and `3 8`
abbrev starts_at_one : List Latch
starts_at_one = record { lit = 2; next = 2; reset = 1 } ∷ []

clauses_of_induction : goal_clauses goals.Induction (reset_literals 4 starts_at_one) (2 ∷ 6 ∷ [])
    ≡ (2 ∷ 6 ∷ []) ∷ (3 ∷ 8 ∷ []) ∷ []
unfolding all_but_last reset_literals
clauses_of_induction = refl

-- of the gates `6 2 4` and `8 6 2`, the cone of the literal 7 has the first
cone_of_seven : cone (7 ∷ []) (record { lhs = 6; rhs0 = 2; rhs1 = 4 } ∷ record { lhs = 8; rhs0 = 6; rhs1 = 2 } ∷ [])
    ≡ record { lhs = 6; rhs0 = 2; rhs1 = 4 } ∷ []
unfolding cone
cone_of_seven = refl

-- input 2 is bad, one frame: two variables, the literal 2, the clauses `1` and `2`
formula_of_input : formula_of bad_input [] (within 1 0)
    ≡ record { variables = 2; goals = 2 ∷ []; clauses = (1 ∷ []) ∷ (2 ∷ []) ∷ [] }
unfolding cone frame_literal
formula_of_input = refl

-- of two inputs, a bad literal that reads the second has a formula of two variables for one frame
abbrev second_bad : Raw
second_bad = record bad_input { max_var = 2; inputs = 2 ∷ 4 ∷ []; bad = 4 ∷ [] }

abbrev reads_second : ℕ → Bool
reads_second = marked (false ∷ false ∷ true ∷ [])

formula_of_second : (formula_of (part second_bad 4 reads_second) [] (of_part (within 1 0))).variables ≡ 2
unfolding picked
formula_of_second = refl

-- of the inputs 2 and 4, a bad literal that reads the second: `c i 2 0 1` names literal 2 of the unrolled part
map_of_second : (origin_lines (codes "c ") second_bad 2 (read_origins reads_second second_bad 1) ≡ codes "c i 2 0 1 \n")
    × ReportsReadInputs second_bad 4 reads_second goals.Within [] 1 (2 ∷ [])
unfolding digits frame_literal origin_lines picked start_origins symbol_name_at
map_of_second = (refl, refl)

-- a property reads the second of two inputs: the row `1` of the part is the row `x1` of the circuit
row_of_second : spread_rows reads_second second_bad ((One ∷ []) ∷ []) ≡ (X ∷ One ∷ []) ∷ []
unfolding spread
row_of_second = refl

-- `c aig cnf --step --frames 3 --property 1 full/`, `c aig cnf --alive --frames 20 /`
headings : (heading (Runs (step 3 1)) (record bad_input { symbols = ((Bad, 1), codes "full") ∷ [] })
    ≡ codes "c aig cnf --step --frames 3 --property 1 full\n")
    × (heading (Alive 20) bad_input ≡ codes "c aig cnf --alive --frames 20 \n")
unfolding digits symbol_name_at
headings = (refl, refl)

-- `within 3 0` takes 3 frames, `step 3 0` and `induction 3 0` take 4
depths : (depth (within 3 0) ≡ 3) × (depth (step 3 0) ≡ 4) × (depth (induction 3 0) ≡ 4)
depths = (refl, refl, refl)

-- the latch `2 3 0` becomes `2 3 2`
freed_latch : uninitialised_latch (record { lit = 2; next = 3; reset = 0 }) ≡ record { lit = 2; next = 3; reset = 2 }
freed_latch = refl

-- with one input and two frames, variables 1 and 2 are the values of the input
values_of_input : (values : ℕ → Bool)
    → values_of bad_input 2 values ≡ tern_of (values 1) ∷ tern_of (values 2) ∷ []
values_of_input values = refl

-- with one input and two frames, of the values `0`, `1`, `x` the rows are `1`, `x`
rows_of_values : named_rows bad_input 2 (Zero ∷ One ∷ X ∷ []) ≡ (One ∷ []) ∷ (X ∷ []) ∷ []
unfolding cut
rows_of_values = refl

-- with `11/`, `examples/two_gates.aag` and its renumbered form both have the trace ` 11 1 /`
both_traces : IsTrace two_gates [] row_11 (codes " 11 1 \n")
    × IsTrace (renumbered two_gates (3 ∷ 4 ∷ [])) [] row_11 (codes " 11 1 \n")
unfolding renumbered_literal renumbered_variable
both_traces =
    let a = value.Value.input 0 0 2 One (One ∷ One ∷ []) refl refl refl in
    let b = value.Value.input 0 1 4 One (One ∷ One ∷ []) refl refl refl in
    let six = value.Value.gate 0 0 (record { lhs = 6; rhs0 = 4; rhs1 = 2 }) One One refl b a in
    let eight = value.Value.gate 0 1 (record { lhs = 8; rhs0 = 6; rhs1 = 2 }) One One refl six a in (
      (
        [],
        codes " 11 1 \n",
        refl,
        record {
          state = [];
          inputs = codes "11";
          outputs = codes "1";
          next = [];
          state_is = tt;
          inputs_are = ((One, first_in_11, refl), ((One, second_in_11, refl), tt));
          outputs_are = ((One, eight_in_11, refl), tt);
          next_is = tt;
          line_is = refl;
        },
        refl,
      ),
      (
        [],
        codes " 11 1 \n",
        refl,
        record {
          state = [];
          inputs = codes "11";
          outputs = codes "1";
          next = [];
          state_is = tt;
          inputs_are = ((One, a, refl), ((One, b, refl), tt));
          outputs_are = ((One, eight, refl), tt);
          next_is = tt;
          line_is = refl;
        },
        refl,
      ),
    )
