-- What the definitions say of a circuit with an input 2, an uninitialised latch 4, whose next state is the gate
-- 6 = 4 AND 2, and the bad literal 4.
use Rattle.std.proofs.Common.{◌≡◌, ◌≢◌, ℕ, nat_eq, List, [], ◌∷◌, length, Contains, None, refl, arith}
use Rattle.std.proofs.lemmas.List.Elements.{All-nil, All-cons}
use Rattle.aig_parts.specs.declared.ternary.Tern.{Tern}
use Rattle.aig_parts.specs.declared.raw.Raw.{Raw}
use Rattle.aig_parts.specs.declared.ternary.Tern.TheVariants.{Zero, One, X}
use Rattle.aig_base.specs.Part.{spread}
use Rattle.aig_base.specs.Runs.{ReachesBad}
use Rattle.aig_base.specs.Value as value
use Rattle.aig_base.specs.Value.{Fits}
use Rattle.aig_base.proofs.lists.Positions.{position_of}
use Rattle.aig_unroll.specs.FrameLiteral.{frame_literal, latch_literal}
use Rattle.aig_refute.specs.Models.{AreKnown}
use Rattle.aig_refute.specs.Satisfiable.{BreaksStep}
use Rattle.aig_refute.specs.SpreadRun.{spread_rows, spread_start}
use Rattle.aig_refute.specs.UnrolledWitness.{cut, filled, rows_in, start_in, witness_in, MakesBad}

abbrev example : Raw
example = record {
  max_var = 3;
  inputs = 2 ∷ [];
  latches = record { lit = 4; next = 6; reset = 4 } ∷ [];
  outputs = [];
  bad = 4 ∷ [];
  constraints = [];
  justice = [];
  fairness = [];
  gates = record { lhs = 6; rhs0 = 4; rhs1 = 2 } ∷ [];
  symbols = [];
  comment = None;
}

-- the row `10x` of two frames
rows_of_10x : rows_in example 2 (One ∷ Zero ∷ X ∷ []) ≡ (One ∷ []) ∷ (Zero ∷ []) ∷ []
unfolding cut
rows_of_10x = refl

start_of_10x : start_in example 2 (One ∷ Zero ∷ X ∷ []) ≡ X ∷ []
unfolding filled
start_of_10x = refl

-- the row `101` makes the bad literal of frame 0 1, and that is a witness of one frame
bad_of_101 : MakesBad example (3 ∷ []) 2 (One ∷ Zero ∷ One ∷ []) 0 0
unfolding frame_literal latch_literal
bad_of_101 = (6, refl, value.Value.input 0 2 6 One (One ∷ Zero ∷ One ∷ []) refl refl refl)

witness_of_101 : witness_in example 2 0 0 (One ∷ Zero ∷ One ∷ [])
    ≡ record { property = 0; start = One ∷ []; rows = (One ∷ []) ∷ [] }
unfolding cut filled
witness_of_101 = refl

-- the start `1` and the row `0` reach literal 4 at frame 0
abbrev rows_0 : List (List Tern)
rows_0 = (Zero ∷ []) ∷ []

fits_1_0 : Fits example (One ∷ []) rows_0
fits_1_0 = record {
  latches = refl;
  inputs = All-cons (λ (r : List Tern). length r ≡ 1) (Zero ∷ []) [] refl (All-nil (λ (r : List Tern). length r ≡ 1));
}

reaches_1_0 : ReachesBad example (One ∷ []) rows_0 0 4
reaches_1_0 = (value.Value.latch_first 0 (record { lit = 4; next = 6; reset = 4 }) One refl refl, λ s c le has. none s c has)
  where
    none : (s c : ℕ) → Contains example.constraints c → value.Value example (One ∷ []) rows_0 s c One
    none s c has = let (q, here) = position_of {A = ℕ} [] c has in cc

-- and break the step of 0 frames
breaks_1_0 : BreaksStep example 0 0 (One ∷ []) rows_0
breaks_1_0 = record {
  fits = fits_1_0;
  known = record {
    start_known = one_known One (λ e. let no : ⊥ = cc in no);
    rows_known = All-cons AreKnown (Zero ∷ []) [] (one_known Zero (λ e. let no : ⊥ = cc in no)) (All-nil AreKnown);
  };
  frames = refl;
  bad = 4;
  bad_is = refl;
  reached = reaches_1_0;
  none_before = λ t below r. omega (arith, below);
}
  where
    one_known : (w : Tern) → w ≢ X → AreKnown (w ∷ [])
    one_known w known = All-cons (λ (v : Tern). v ≢ X) w [] known (All-nil (λ (v : Tern). v ≢ X))

-- with a further input 8 that alone is read, the row `1` of the part is the row `x1`, and the latch starts at x
spread_1 : spread_rows (λ v. nat_eq v 4) (record example { inputs = 2 ∷ 8 ∷ [] }) ((One ∷ []) ∷ []) ≡ (X ∷ One ∷ []) ∷ []
unfolding spread
spread_1 = refl

spread_from_none : spread_start (λ v. nat_eq v 4) example [] ≡ X ∷ []
unfolding spread
spread_from_none = refl
