-- `sim`: what its arguments choose, and how it ends.
-- Example: where a line of the stimulus is wrong, it has written the trace of the lines before it.
use Rattle.std.specs.Prelude.{ℕ, List, Option, IfSome, Result, codes}
use Rattle.clap.specs.declared.parser.matches.ArgMatches.{ArgMatches}
use Rattle.aig_bytes.specs.Flow.{Flow}
use Rattle.aig_command.specs.Command.{OfFile}
use Rattle.aig_commands.specs.Sim.{WritesSimulation}
use Rattle.aig_files.specs.declared.exit.Exit.{Exit}
use Rattle.aig_files.specs.declared.source.FileSource.{FileSource}
use Rattle.aig_program.specs.ChosenFiles.{IsCircuitOf, IsNamedBy}
use Rattle.aig_program.specs.Ends.{Ends, OfText, Seen, end_of}
use Rattle.aig_sim.specs.declared.stimulus.fault.StimFault.TheVariants as stimuli
use Rattle.aig_command.specs.declared.run_fault.RunFault.TheVariants as run_faults
use Rattle.aig_program.specs.declared.commands.sim.Sim.{Sim}

abbrev pub OpensSim : {F : Type 0} → ArgMatches → Sim (FileSource F) → Type 0
OpensSim matches it = IsCircuitOf matches it.circuit × IsNamedBy matches (codes "STIM") it.stimulus

-- it ends so for what it has read of the stimulus
abbrev pub EndsSim : {F : Type 0} → Flow Seen → (F → Option (List ℕ)) → Sim F → Result (Unit {0}) Exit → Type 0
EndsSim out left it result =
    IfSome (left it.circuit) (λ file. IfSome (left it.stimulus) (λ rows.
    Ends out (run_faults.Stimulus stimuli.Io) end_of (OfText rows (λ text. OfFile file (WritesSimulation text))) result))
