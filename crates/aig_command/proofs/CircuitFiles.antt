-- What a circuit's file is.
use Rattle.std.proofs.Common.{◌≡◌, ℕ, List, Result, Ok, Err, ap}
use Rattle.std.specs.Prelude.{IfOk, IfErr}
use Rattle.aig_parts.specs.declared.raw.Raw.{Raw}
use Rattle.aig_parts.specs.declared.fault.Fault.{Fault}
use Rattle.aig_parts.specs.declared.fault.Fault.TheVariants as circuits
use Rattle.aig_base.specs.Circuit.{IsCircuit}
use Rattle.aig_format.specs.FileReading.{IsReading}
use Rattle.aig_format.specs.Spells.{Spells}
use Rattle.aig_format.proofs.RoundTrip.{text_spells}
use Rattle.aig_command.specs.Command.{IsFileOf, RefusesCircuit}

-- a file spells its circuit
pub file_spells : (bytes : List ℕ) (raw : Raw) → IsFileOf bytes raw → Spells bytes raw
file_spells bytes raw file = text_spells bytes raw file.circuit file.spelled

-- what is read of a file is its circuit
pub is_file : (bytes : List ℕ) (r : Result Raw Fault) → IsReading bytes r → IfOk r IsCircuit → IfOk r (IsFileOf bytes)
is_file bytes (Ok raw) reading circuit = record { spelled = reading.found.1; circuit = circuit }
is_file bytes (Err fault) reading circuit = tt

pub refuses_circuit : (bytes : List ℕ) (r : Result Raw Fault) → IsReading bytes r → (r ≡ Err circuits.Io → ⊥)
    → IfErr r (RefusesCircuit bytes)
refuses_circuit bytes (Ok raw) reading io = tt
refuses_circuit bytes (Err fault) reading io = (reading, λ e. io (ap Err e))
