-- A circuit that extends the one of a file.
use Rattle.std.specs.Prelude.{◌≡◌, ℕ, List, Some, slice_get}
use Rattle.aig_parts.specs.declared.raw.Raw.{Raw}
use Rattle.aig_certificate.specs.Extension.{IsExtension}
use Rattle.aig_command.specs.Command.{IsFileOf}

-- x extends the circuit of the file, for its bad literal at position p
abbrev pub IsExtensionOf : List ℕ → ℕ → Raw → Type 0
IsExtensionOf file p x =
    (raw : Raw) × IsFileOf file raw × ((b : ℕ) × (slice_get raw.bad p ≡ Some b) × IsExtension raw x b)
