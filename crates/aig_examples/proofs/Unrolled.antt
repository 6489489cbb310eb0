-- The examples of the definitions of `aig_unroll`.
use Rattle.std.proofs.Common.{◌≡◌, [], ◌∷◌, None, refl, arith}
use Rattle.std.specs.Prelude.{codes, Err}
use Rattle.std.specs.Fmt.{digits}
use Rattle.aig_parts.specs.declared.raw.Raw.{Raw}
use Rattle.aig_parts.specs.declared.ternary.Tern.TheVariants.{Zero, One, X}
use Rattle.aig_base.specs.Renumbered.{evens}
use Rattle.aig_unroll.specs.Answers.{unroll_fault_number, AnswersUnrolling}
use Rattle.aig_unroll.specs.FrameLiteral.{frame_literal, latch_literal}
use Rattle.aig_unroll.specs.InputMap.{map_text, origin_lines, start_origins, symbol_name_at}
use Rattle.aig_unroll.specs.Unrollable.{FitsLimits}
use Rattle.aig_unroll.specs.Unrolled.{unrolled}
use Rattle.aig_unroll.specs.UnrolledValues.{unrolled_row}
use Rattle.aig_unroll.specs.declared.fault.UnrollFault.TheVariants as faults

-- The circuit of the examples: input 2, latch `4 6 4`, output 4, gate `6 = 4 AND 2`. Variable 3 alone is one of a gate.
abbrev example : Raw
example = record {
  max_var = 3;
  inputs = 2 ∷ [];
  latches = record { lit = 4; next = 6; reset = 4 } ∷ [];
  outputs = 4 ∷ [];
  bad = [];
  constraints = [];
  justice = [];
  fairness = [];
  gates = record { lhs = 6; rhs0 = 4; rhs1 = 2 } ∷ [];
  symbols = [];
  comment = None;
}

-- for 0 frames `NoFrames`, number 9
no_frames : AnswersUnrolling example 0 (Err faults.NoFrames) × (unroll_fault_number faults.NoFrames ≡ 9)
no_frames = (refl, refl)

-- literal 4 is 6 at frame 0 and 8 at frame 1
frames_of_four : (frame_literal example (3 ∷ []) 2 0 4 ≡ 6) × (frame_literal example (3 ∷ []) 2 1 4 ≡ 8)
unfolding frame_literal latch_literal
frames_of_four = (refl, refl)

-- `i 0 0 0 `, `i 1 1 0 `, `l 2 0 `
map_of_example : map_text example 2 ≡ codes "i 0 0 0 \ni 1 1 0 \nl 2 0 \n"
unfolding digits origin_lines start_origins symbol_name_at
map_of_example = refl

-- 64 inputs fit for 65,535 frames
many_inputs : FitsLimits (record {
  max_var = 64;
  inputs = evens 64;
  latches = [];
  outputs = [];
  bad = [];
  constraints = [];
  justice = [];
  fairness = [];
  gates = [];
  symbols = [];
  comment = None;
}) 65535
many_inputs = record {
  frames = omega arith;
  max_var = omega arith;
  inputs = omega arith;
  outputs = omega arith;
  bad = omega arith;
  constraints = omega arith;
  gates = omega arith;
}

-- `aag 2 2 0 0 0 1 1`, bad 2, constraint 4, for 2 frames: bad 12 and 16, gates `10 4 1`, `12 10 2`, `14 10 8`,
-- `16 14 6`
abbrev constrained : Raw
constrained = record {
  max_var = 2;
  inputs = 2 ∷ 4 ∷ [];
  latches = [];
  outputs = [];
  bad = 2 ∷ [];
  constraints = 4 ∷ [];
  justice = [];
  fairness = [];
  gates = [];
  symbols = [];
  comment = None;
}

guards_of_two_frames : ((unrolled constrained [] 2).bad ≡ 12 ∷ 16 ∷ [])
    × ((unrolled constrained [] 2).gates
    ≡ record { lhs = 10; rhs0 = 4; rhs1 = 1 } ∷ record { lhs = 12; rhs0 = 10; rhs1 = 2 }
    ∷ record { lhs = 14; rhs0 = 10; rhs1 = 8 } ∷ record { lhs = 16; rhs0 = 14; rhs1 = 6 } ∷ [])
unfolding frame_literal latch_literal
guards_of_two_frames = (refl, refl)

-- rows `1`, `0` and start `x` make the row `10x`
row_of_two_frames : unrolled_row example (X ∷ []) ((One ∷ []) ∷ (Zero ∷ []) ∷ []) ≡ One ∷ Zero ∷ X ∷ []
row_of_two_frames = refl
