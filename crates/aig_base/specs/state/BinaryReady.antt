-- What a binary file can hold, section by section.
use Rattle.std.specs.Prelude.{◌≡◌, ℕ, ◌+◌, List, length, map}
use Rattle.aig_parts.specs.declared.gate.Gate.{Gate}
use Rattle.aig_parts.specs.declared.latch.Latch.{Latch}
use Rattle.aig_base.specs.Renumbered.{evens_from}

-- inputs, latches and left sides are in order the even literals of the variables 1 to n
pub record SectionsInOrder (inputs : List ℕ) (latches : List Latch) (gates : List Gate) (n : ℕ) : Type 0 where
  pub size : n ≡ length inputs + length latches + length gates
  pub inputs_are : inputs ≡ evens_from 1 (length inputs)
  pub latches_are : map (λ x. x.lit) latches ≡ evens_from (1 + length inputs) (length latches)
  pub gates_are : map (λ g. g.lhs) gates ≡ evens_from (1 + length inputs + length latches) (length gates)
