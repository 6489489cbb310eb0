-- The order in which a bench takes the gates of its circuit (our own choice).
-- Example: the gates 8 = 6 AND 2 and 6 = 2 AND 5, the second listed first.
use Rattle.std.specs.Prelude.{◌≡◌, ◌≢◌, ℕ, ◌<◌, List, length}
use Rattle.std.specs.Vec.{vec_capacity}
use Rattle.aig_parts.specs.declared.gate.Gate.{Gate}
use Rattle.aig_parts.specs.declared.raw.Raw.{Raw}
use Rattle.aig_values.specs.GateOrder.{IsGateOrder}
use Rattle.aig_bench.specs.declared.engine.sweep_order.Order.{Order}
use Rattle.aig_bench.specs.declared.engine.sweep_order.Way.{Way}
use Rattle.aig_bench.specs.declared.engine.sweep_order.Way.TheVariants.{Standing, Listed, Stale}

-- all gates of the circuit, each once and after those that it reads
pub record IsFullOrder (raw : Raw) (gates : List Gate) : Type 0 where
  pub order : IsGateOrder raw gates
  pub size : length gates ≡ length raw.gates

-- taken this way the gates are in such an order; of a stale one nothing is known
abbrev pub AreTaken : Raw → Way → List Gate → Type 0
AreTaken raw Standing gates = IsGateOrder raw raw.gates
AreTaken raw Listed gates = IsFullOrder raw gates
AreTaken raw Stale gates = Unit {0}

abbrev pub Orders : Raw → Order → Type 0
Orders raw order = AreTaken raw order.way order.gates.items

-- the order is known
abbrev pub IsKnownOrder : Way → Type 0
IsKnownOrder way = way ≢ Stale

-- one more gate fits without memory, where they are listed
abbrev pub HasGateRoom : Way → List Gate → ℕ → Type 0
HasGateRoom Standing gates capacity = Unit {0}
HasGateRoom Listed gates capacity = length gates < capacity
HasGateRoom Stale gates capacity = Unit {0}

abbrev pub FitsOneGate : Order → Type 0
FitsOneGate order = HasGateRoom order.way order.gates.items (vec_capacity order.gates)
