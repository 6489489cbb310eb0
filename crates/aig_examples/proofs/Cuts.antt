-- The examples of the definitions of `aig_cut`.
use Rattle.std.proofs.Common.{◌≡◌, ℕ, ◌==◌, List, [], ◌∷◌, false, refl}
use Rattle.aig_parts.specs.declared.latch.Latch.{Latch}
use Rattle.aig_cut.specs.CutOf.{cut_latches, in_front, latch_inputs, next_of, reset_of}
use Rattle.aig_cut.specs.Cuts.{Cuts}

-- the latch of literal 4 is free
abbrev free_four : Cuts
free_four = record { free = λ l. l == 4; starts = λ l. false; constraints = λ p. false }

abbrev a_latch : Latch
a_latch = record { lit = 4; next = 2; reset = 0 }

-- a latch `4 2` that is free, in a circuit of two variables, is the input 6 and the latch `4 6`
free_latch : cut_latches free_four 3 (a_latch ∷ []) ≡ record { lit = 4; next = 6; reset = 0 } ∷ []
unfolding cut_latches next_of reset_of
free_latch = refl

input_of_free_latch : latch_inputs free_four 3 (a_latch ∷ []) ≡ 6 ∷ []
unfolding latch_inputs in_front
input_of_free_latch = refl
