-- `wave`: what its arguments choose, and how it ends.
-- Example: `wave --witness CIRCUIT FILE` dumps the run of the witness in that file.
use Rattle.std.specs.Prelude.{ℕ, List, Option, IfSome, Result, codes, false, true}
use Rattle.clap.specs.declared.parser.matches.ArgMatches.{ArgMatches}
use Rattle.aig_bytes.specs.Flow.{Flow}
use Rattle.aig_command.specs.Command.{OfFile}
use Rattle.aig_commands.specs.Wave.{DumpsRun, WritesWave}
use Rattle.aig_files.specs.declared.exit.Exit.{Exit}
use Rattle.aig_files.specs.declared.source.FileSource.{FileSource}
use Rattle.aig_cli.specs.Held.{HoldsFlag}
use Rattle.aig_program.specs.ChosenFiles.{IsCircuitOf, IsNamedBy}
use Rattle.aig_program.specs.Ends.{Ends, OfText, Seen, end_of}
use Rattle.aig_sim.specs.declared.stimulus.fault.StimFault.TheVariants as stimuli
use Rattle.aig_command.specs.declared.run_fault.RunFault.TheVariants as run_faults
use Rattle.aig_program.specs.declared.commands.wave.Wave.{Wave}
use Rattle.aig_program.specs.declared.commands.wave.WaveWitness.{WaveWitness}

abbrev pub OpensWave : {F : Type 0} → ArgMatches → Wave (FileSource F) → Type 0
OpensWave matches it =
    HoldsFlag matches (codes "witness") false × IsCircuitOf matches it.circuit
    × IsNamedBy matches (codes "STIM") it.stimulus

-- it ends so for what it has read of the stimulus
abbrev pub EndsWave : {F : Type 0} → Flow Seen → (F → Option (List ℕ)) → Wave F → Result (Unit {0}) Exit → Type 0
EndsWave out left it result =
    IfSome (left it.circuit) (λ file. IfSome (left it.stimulus) (λ rows.
    Ends out (run_faults.Stimulus stimuli.Io) end_of (OfText rows (λ text. OfFile file (WritesWave text))) result))

-- with `--witness`
abbrev pub OpensWaveWitness : {F : Type 0} → ArgMatches → WaveWitness (FileSource F) → Type 0
OpensWaveWitness matches it =
    HoldsFlag matches (codes "witness") true × IsCircuitOf matches it.circuit
    × IsNamedBy matches (codes "STIM") it.witness

abbrev pub EndsWaveWitness : {F : Type 0} → Flow Seen → (F → Option (List ℕ)) → WaveWitness F → Result (Unit {0}) Exit
    → Type 0
EndsWaveWitness out left it result =
    IfSome (left it.circuit) (λ file. IfSome (left it.witness) (λ text.
    Ends out run_faults.Output end_of (OfFile file (DumpsRun text)) result))
