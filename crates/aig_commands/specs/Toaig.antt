-- What `toaig` writes: a circuit in another format. Where the standard is silent, what it leaves out is our own choice.
-- Example: `examples/two_gates.aag` to binary: `aig 4 2 0 1 2/8/`, then `02 02 02 04`.
use Rattle.std.specs.Prelude.{◌≡◌, ◌⊎◌, ℕ, List, [], Result, Ok, Err}
use Rattle.aig_parts.specs.declared.raw.Raw.{Raw}
use Rattle.aig_base.specs.Order.{IsCanonicalOrder}
use Rattle.aig_base.specs.Renumbered.{renumbered, IsBinaryReady}
use Rattle.aig_format.specs.declared.reader.header.Format.{Format}
use Rattle.aig_format.specs.declared.reader.header.Format.TheVariants.{Ascii, Binary}
use Rattle.aig_format.specs.Spelling.{short_ascii, short_binary}
use Rattle.aig_command.specs.declared.run_fault.RunFault.{RunFault}
use Rattle.aig_command.specs.declared.run_fault.RunFault.TheVariants as run_faults

-- the bytes that a circuit is converted to: as it stands where the format can hold it so, else renumbered
abbrev pub IsConverted : Raw → Format → List ℕ → Type 0
IsConverted raw Ascii text = text ≡ short_ascii raw
IsConverted raw Binary text =
    (IsBinaryReady raw × (text ≡ short_binary raw))
    ⊎ ((IsBinaryReady raw → ⊥) × ((order : List ℕ) × IsCanonicalOrder raw order
    × (text ≡ short_binary (renumbered raw order))))

-- a file of the format cannot hold the circuit as it stands
abbrev pub HasToBeRenumbered : Format → Raw → Type 0
HasToBeRenumbered Ascii raw = ⊥
HasToBeRenumbered Binary raw = IsBinaryReady raw → ⊥

-- what `toaig` writes for a circuit; it needs memory only where the circuit has to be renumbered
abbrev pub Converts : Format → Raw → Result (Unit {0}) RunFault → List ℕ → Type 0
Converts to raw (Ok done) text = IsConverted raw to text
Converts to raw (Err run_faults.Memory) text = HasToBeRenumbered to raw × (text ≡ [])
Converts to raw (Err _) text = ⊥
