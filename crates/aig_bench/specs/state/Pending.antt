-- What a propagation works on besides the cells: gates that wait, and latches that are carried into a frame (our own
-- choice).
use Rattle.std.specs.Prelude.{◌≡◌, ℕ, Bool, List, length, Some, slice_get}
use Rattle.aig_parts.specs.declared.latch.Latch.{Latch}
use Rattle.aig_parts.specs.declared.raw.Raw.{Raw}
use Rattle.aig_parts.specs.declared.ternary.Tern.{Tern}
use Rattle.aig_base.specs.Levels.{AreLevels}
use Rattle.aig_parts.specs.Literal.{variable}
use Rattle.aig_base.specs.Readers.{AreReaders}
use Rattle.aig_values.specs.Cells.{literal_value}
use Rattle.aig_bench.specs.declared.engine.sweep_order.Order.{Order}
use Rattle.aig_bench.specs.declared.engine.driven_circuit.DrivenCircuit.{DrivenCircuit}
use Rattle.aig_bench.specs.declared.engine.fanouts.Fanouts.{Fanouts}
use Rattle.aig_bench.specs.declared.propagate.pending.Pending.{Pending}
use Rattle.aig_bench.specs.state.DrivenCircuit.{pair_of}
use Rattle.aig_bench.specs.state.Engine.{EngineState, IsIdle}
use Rattle.aig_bench.specs.state.Latches.{AreLatchReaders, IsLatchList}
use Rattle.aig_bench.specs.state.SweepOrder.{Orders}
use Rattle.aig_bench.specs.state.Sweep.{IsWork, IsWorking}

-- the levels of a circuit, and its fan-outs
pub record AreFanouts (raw : Raw) (fanouts : Fanouts) : Type 0 where
  pub levels : AreLevels raw fanouts.levels
  pub readers : AreReaders raw fanouts.readers
  pub latches : AreLatchReaders raw fanouts.latches

-- the fan-outs, and two lists of the circuit's latches
pub record HasLists (driven : DrivenCircuit) (fanouts : Fanouts) (pending : Pending) : Type 0 where
  pub readers : AreLatchReaders driven.circuit fanouts.latches
  pub here : IsLatchList (length driven.circuit.latches) pending.here
  pub ahead : IsLatchList (length driven.circuit.latches) pending.ahead

-- what an engine keeps: a grid for its driven circuit, buckets in which gates alone wait, lists, and an order of its
-- gates or none
pub record IsEngine (driven : DrivenCircuit) (fanouts : Fanouts) (pending : Pending) (order : Order) (flags : List Bool)
    (cells : List (List Tern)) : Type 0 where
  pub work : IsWork driven fanouts flags cells pending.buckets
  pub lists : HasLists driven fanouts pending
  pub orders : Orders driven.circuit order

-- what contracts see of it
abbrev pub state_of : DrivenCircuit → Fanouts → Pending → Order → List (List Tern) → ℕ → EngineState
state_of driven fanouts pending order cells n = record {
  pair = pair_of driven;
  cells = cells;
  levels = fanouts.levels;
  way = order.way;
  queued = pending.buckets.marks.items;
  heads = pending.buckets.head.items;
  here = pending.here.marks.items;
  ahead = pending.ahead.marks.items;
  evaluations = n;
}

-- what a bench keeps: the cells are the values of all frames, and there is nothing to be looked at
pub record IsSettledBench (driven : DrivenCircuit) (fanouts : Fanouts) (pending : Pending) (flags : List Bool)
    (cells : List (List Tern)) : Type 0 where
  pub working : IsWorking driven fanouts pending.buckets flags cells
  pub lists : HasLists driven fanouts pending
  pub idle : IsIdle pending.buckets.marks.items pending.here.marks.items pending.ahead.marks.items

-- the latches' cells in a row are the values of their next literals in the row before
abbrev pub IsNextRow : Raw → List Tern → List Tern → Type 0
IsNextRow raw row row' = (i : ℕ) (x : Latch) → slice_get raw.latches i ≡ Some x
    → slice_get row' (variable x.lit) ≡ Some (literal_value row x.next)
