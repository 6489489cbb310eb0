-- The lines of a mapping, while they are read.
use Rattle.std.specs.Prelude.{◌≡◌, ℕ, ◌+◌, ◌==◌, Bool, true, false, List, [], ◌∷◌, ◌++◌, length, map, All, Option, Some, None}
use Rattle.aig_parts.specs.declared.raw.Raw.{Raw}
use Rattle.aig_base.specs.declared.circuit.definition.Definition.{Definition}
use Rattle.aig_base.specs.declared.circuit.definition.Definition.TheVariants as definition
use Rattle.aig_certificate.specs.declared.fault.StrengthenFault.{StrengthenFault}
use Rattle.aig_certificate.specs.declared.fault.StrengthenFault.TheVariants as faults
use Rattle.aig_certificate.specs.declared.mapping.Pair.{Pair}
use Rattle.aig_certificate.specs.Mapping.{IsPair, lines, pair_line}

-- the text is cut at the first such byte: this comes before it, and the rest behind it, if there is one
abbrev pub IsCut : ℕ → List ℕ → List ℕ → Option (List ℕ) → Type 0
IsCut byte text front (Some rest) = (text ≡ front ++ byte ∷ rest) × All (λ b. (b == byte) ≡ false) front
IsCut byte text front None = (text ≡ front) × All (λ b. (b == byte) ≡ false) front

-- an input or a latch defines the variable
abbrev pub is_source : Option Definition → Bool
is_source (Some (definition.Input p)) = true
is_source (Some (definition.Latch p)) = true
is_source (Some (definition.Gate q)) = false
is_source None = false

-- the lines of a text, if there is one
abbrev pub lines_of : Option (List ℕ) → List (List ℕ)
lines_of None = []
lines_of (Some text) = lines text

-- the first of these lines are those of the pairs
abbrev pub AreLinesOf : List (List ℕ) → List Pair → Type 0
AreLinesOf given pairs = (after : List (List ℕ)) × (given ≡ map pair_line pairs ++ after)

-- the first n of these lines are no pairs, or no memory was found
abbrev pub RefusesPairs : Raw → Raw → List (List ℕ) → ℕ → StrengthenFault → Type 0
RefusesPairs model certificate given n faults.Memory = Unit {0}
RefusesPairs model certificate given n faults.Comment =
    (pairs : List Pair) → length pairs ≡ n → All (IsPair model certificate) pairs → AreLinesOf given pairs → ⊥
RefusesPairs model certificate given n fault = ⊥

-- how much is left of a text, and one where there is one
abbrev pub left : Option (List ℕ) → ℕ
left None = 0
left (Some text) = length text + 1
