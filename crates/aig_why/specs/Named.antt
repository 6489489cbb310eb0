-- What a naming has to be before a text is made with it.
use Rattle.std.specs.Prelude.{◌≡◌, length, replicate, None}
use Rattle.aig_parts.specs.declared.raw.Raw.{Raw}
use Rattle.aig_parts.specs.declared.symbols.Kind.TheVariants as kinds
use Rattle.aig_bench.specs.BenchState.{CircuitAndRows}
use Rattle.aig_base.specs.Resets.{HasOtherResets}
use Rattle.aig_signals.specs.declared.text.Naming.{Naming}
use Rattle.aig_signals.specs.Signals.{section_signals}

-- no input and no latch of the circuit is named
pub record NamesNothing (raw : Raw) (n : Naming) : Type 0 where
  pub inputs : n.inputs.values ≡ replicate (length raw.inputs) None
  pub latches : n.latches.values ≡ replicate (length raw.latches) None

-- the naming has the signals of a circuit that the bench runs, but for the resets of its latches
pub record IsNamingOf (raw : Raw) (pair : CircuitAndRows) (n : Naming) : Type 0 where
  pub resets : HasOtherResets raw pair.circuit
  pub inputs : n.inputs.signals ≡ section_signals raw kinds.Input
  pub latches : n.latches.signals ≡ section_signals raw kinds.Latch
