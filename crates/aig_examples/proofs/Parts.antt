-- The examples of the definitions of `aig_parts`.
use Rattle.std.proofs.Common.{◌≡◌, [], ◌∷◌, None, refl, arith}
use Rattle.std.specs.Prelude.{◌*◌, codes}
use Rattle.aig_parts.specs.declared.raw.Raw.{Raw}
use Rattle.aig_parts.specs.declared.symbols.Kind.TheVariants.{Input, Constraint}
use Rattle.aig_parts.specs.declared.ternary.Tern.TheVariants.{Zero, One, X}
use Rattle.aig_parts.specs.Formed.{IsFormed}
use Rattle.aig_parts.specs.Letters.{letter}
use Rattle.aig_parts.specs.Limits.{cell_limit, frame_limit}
use Rattle.aig_parts.specs.Literal.{negation, variable, IsNegated}
use Rattle.aig_parts.specs.SymbolPlaces.{symbol_in}
use Rattle.aig_parts.specs.Ternary.{kleene_and}

-- two inputs and a symbol `i2 a` are not formed: there is no input 2
abbrev without_input : Raw
without_input = record {
  max_var = 2;
  inputs = 2 ∷ 4 ∷ [];
  latches = [];
  outputs = [];
  bad = [];
  constraints = [];
  justice = [];
  fairness = [];
  gates = [];
  symbols = ((Input, 2), codes "a") ∷ [];
  comment = None;
}

no_input_two : IsFormed without_input → ⊥
no_input_two formed = let h = formed.symbols 0 ((Input, 2), codes "a") (omega arith) in omega (arith, h.0)

-- of the bytes `ena` the place from 0 to 2 has the name `en`
first_name : symbol_in (codes "ena") ((Input, 0), record { start = 0; end = 2 }) ≡ ((Input, 0), codes "en")
first_name = refl

-- `i` is the letter of inputs, `c` that of constraints
letters : (letter Input ∷ letter Constraint ∷ []) ≡ codes "ic"
letters = refl

-- 65,536 frames of 1,024 variables fill a grid
full_grid : (frame_limit ≡ 65536) × (65536 * 1024 ≡ cell_limit)
full_grid = (refl, refl)

-- literal 9 has variable 4 and negates 8
literal_nine : (variable 9 ≡ 4) × IsNegated 9 × (negation 9 ≡ 8)
literal_nine = (refl, refl, refl)

-- `x AND 0` is 0, `x AND 1` is x
x_and : (kleene_and X Zero ≡ Zero) × (kleene_and X One ≡ X)
x_and = (refl, refl)
