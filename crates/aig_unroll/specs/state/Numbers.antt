-- For each variable of a circuit the one that stands for it in the renumbered circuit, found by what defines it.
use Rattle.std.specs.Prelude.{◌≡◌, ℕ, ◌+◌, ◌<◌, List, length, map, Some, slice_get, slice_index}
use Rattle.std.specs.List.{range_with_len}
use Rattle.aig_parts.specs.declared.gate.Gate.{Gate}
use Rattle.aig_parts.specs.declared.raw.Raw.{Raw}
use Rattle.aig_parts.specs.Literal.{variable}
use Rattle.aig_base.specs.Order.{IsCanonicalOrder}
use Rattle.aig_base.specs.Renumbered.{renumbered_variable}

-- the numbers of the variables 0 to M
abbrev pub numbers_of : Raw → List ℕ → List ℕ
numbers_of raw order = map (renumbered_variable raw order) (range_with_len 0 (raw.max_var + 1))

-- for each gate of the order, by its position in the circuit, its place in the order
pub record ArePlaces (raw : Raw) (order places : List ℕ) : Type 0 where
  pub size : length places ≡ length raw.gates
  pub canonical : IsCanonicalOrder raw order
  pub each : (p q : ℕ) (g : Gate) → p < length order → slice_get raw.gates q ≡ Some g
      → variable g.lhs ≡ slice_index order p → slice_index places q ≡ p
