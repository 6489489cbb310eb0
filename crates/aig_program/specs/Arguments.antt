-- How a run ends whose arguments are not parsed.
-- Example: an argument that is no text ends it with `NotText`.
use Rattle.std.specs.Prelude.{⊤}
use Rattle.aig_command.specs.declared.run_fault.RunFault.TheVariants as run_faults
use Rattle.aig_files.specs.declared.exit.Exit.{Exit}
use Rattle.aig_files.specs.declared.exit.Exit.TheVariants as exits

-- they are wrong or no text, or memory or a descriptor is missing
abbrev pub IsUnparsed : Exit → Type 0
IsUnparsed exits.Reported = ⊤
IsUnparsed exits.NotText = ⊤
IsUnparsed (exits.Run run_faults.Output) = ⊤
IsUnparsed (exits.Run run_faults.Memory) = ⊤
IsUnparsed _ = ⊥
