-- A circuit that extends another one: it has more inputs, latches and gates, and one bad state property, which is 1
-- wherever a bad literal of the other circuit is (our own choice).
use Rattle.std.specs.Prelude.{◌≡◌, ℕ, List, [], ◌∷◌, ◌++◌, Contains}
use Rattle.aig_parts.specs.declared.gate.Gate.{Gate}
use Rattle.aig_parts.specs.declared.latch.Latch.{Latch}
use Rattle.aig_parts.specs.declared.raw.Raw.{Raw}
use Rattle.aig_parts.specs.Literal.{negation}

-- The literal is the part, or an AND that has the part among its sides, their sides, and so on: it is 1 only where the
-- part is.
pub data IsAndOf (gates : List Gate) (part : ℕ) : ℕ → Type 0 where
  itself : IsAndOf gates part part
  first : (g : Gate) → Contains gates g → IsAndOf gates part g.rhs0 → IsAndOf gates part g.lhs
  second : (g : Gate) → Contains gates g → IsAndOf gates part g.rhs1 → IsAndOf gates part g.lhs

-- x has the sections of the circuit, each with more behind it, and the same constraints; its one bad literal is 1
-- wherever b is, because its negation is an AND of b's negation
pub record IsExtension (raw x : Raw) (b : ℕ) : Type 0 where
  pub more_inputs : List ℕ
  pub more_latches : List Latch
  pub more_gates : List Gate
  pub bad : ℕ
  pub inputs_are : x.inputs ≡ raw.inputs ++ more_inputs
  pub latches_are : x.latches ≡ raw.latches ++ more_latches
  pub gates_are : x.gates ≡ raw.gates ++ more_gates
  pub constraints_are : x.constraints ≡ raw.constraints
  pub bad_is : x.bad ≡ bad ∷ []
  pub covers : IsAndOf x.gates (negation b) (negation bad)
