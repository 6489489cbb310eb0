-- A circuit that goes well, by the file or the reader that has it.
use Rattle.std.proofs.Common.{ℕ, List, Result, Ok}
use Rattle.aig_parts.specs.declared.raw.Raw.{Raw}
use Rattle.aig_base.specs.Circuit.{IsCircuit}
use Rattle.aig_bytes.specs.Flow.{Flow}
use Rattle.aig_format.specs.FileReading.{Raises}
use Rattle.aig_command.specs.declared.run_fault.RunFault.{RunFault}
use Rattle.aig_command.specs.Command.{IsFileOf, OfFile, OfReader}
use Rattle.aig_command.proofs.Files.{MeansNoFault, Answers, of_reader}
use Rattle.aig_commands.specs.GoesWell.{GoesWell}

module _ {T : Type 0} (Means : Raw → Result T RunFault → List ℕ → Type 0) (raw : Raw) where
  pub file_goes_well : (file : List ℕ) → IsFileOf file raw → GoesWell (Means raw) → GoesWell (OfFile file Means)
  file_goes_well file is (value, bytes, means) = (value, bytes, (raw, is, means))

  pub reader_goes_well : {Y : Type 0} (circuit : Flow Y) → MeansNoFault Means raw → Answers circuit (Ok raw) → IsCircuit raw
      → Raises {X = Raw} (Ok raw) (circuit.failures circuit.old) (circuit.failures circuit.new) → GoesWell (Means raw)
      → GoesWell (OfReader circuit Means)
  reader_goes_well circuit none answers is_circuit count (value, bytes, means) =
      (value, bytes, of_reader circuit Means raw none answers is_circuit count (Ok value) bytes means)
