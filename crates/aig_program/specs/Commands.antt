-- The commands of the program: what it means that one is opened, and how it ends.
-- Example: `refute` is opened by its own K and P, and ends by them.
use Rattle.std.specs.Prelude.{◌≡◌, ℕ, List, Option, Result, codes, ⊤}
use Rattle.clap.specs.declared.parser.matches.ArgMatches.{ArgMatches}
use Rattle.aig_bytes.specs.Flow.{Flow}
use Rattle.aig_files.specs.declared.exit.Exit.{Exit}
use Rattle.aig_files.specs.declared.source.FileSource.{FileSource}
use Rattle.aig_program.specs.Ends.{Seen}
use Rattle.aig_program.specs.Bench.{EndsBench, OpensBench}
use Rattle.aig_program.specs.Check.{EndsCheck, EndsCheckAlive, GoodCheck, GoodCheckAlive, OpensCheck, OpensCheckAlive}
use Rattle.aig_program.specs.Cnf.{EndsCnf, OpensCnf}
use Rattle.aig_program.specs.Cut.{EndsCut, OpensCut}
use Rattle.aig_program.specs.Info.{EndsInfo, EndsInfoNames, OpensInfo, OpensInfoNames}
use Rattle.aig_program.specs.Reduce.{EndsReduce, OpensReduce}
use Rattle.aig_program.specs.Refute.{EndsRefute, GoodRefute, OpensRefute}
use Rattle.aig_program.specs.Select.{EndsSelect, EndsSelectNamed, OpensSelect, OpensSelectNamed}
use Rattle.aig_program.specs.Sim.{EndsSim, OpensSim}
use Rattle.aig_program.specs.Strengthen.{EndsStrengthen, OpensStrengthen}
use Rattle.aig_program.specs.Toaig.{EndsToaig, OpensToaig}
use Rattle.aig_program.specs.Unroll.{EndsUnroll, EndsUnrollAndMap, OpensUnroll, OpensUnrollAndMap}
use Rattle.aig_program.specs.Wave.{EndsWave, EndsWaveWitness, OpensWave, OpensWaveWitness}
use Rattle.aig_program.specs.Why.{EndsWhy, OpensWhy}
use Rattle.aig_program.specs.Witness.{EndsModelWitness, EndsWitness, OpensModelWitness, OpensWitness}
use Rattle.aig_program.specs.declared.commands.Command.{Command}
use Rattle.aig_program.specs.declared.commands.Command.TheVariants as commands

-- A command has this name, the form, numbers and texts that its options choose, and the files that its arguments name.
abbrev pub Opens : {F : Type 0} → List ℕ → ArgMatches → Command (FileSource F) → Type 0
Opens name matches (commands.Toaig it) = (name ≡ codes "toaig") × OpensToaig matches it
Opens name matches (commands.Info it) = (name ≡ codes "info") × OpensInfo matches it
Opens name matches (commands.InfoNames it) = (name ≡ codes "info") × OpensInfoNames matches it
Opens name matches (commands.Select it) = (name ≡ codes "select") × OpensSelect matches it
Opens name matches (commands.SelectNamed it) = (name ≡ codes "select") × OpensSelectNamed matches it
Opens name matches (commands.Cut it) = (name ≡ codes "cut") × OpensCut matches it
Opens name matches (commands.Unroll it) = (name ≡ codes "unroll") × OpensUnroll matches it
Opens name matches (commands.UnrollAndMap it) = (name ≡ codes "unroll") × OpensUnrollAndMap matches it
Opens name matches (commands.Sim it) = (name ≡ codes "sim") × OpensSim matches it
Opens name matches (commands.Wave it) = (name ≡ codes "wave") × OpensWave matches it
Opens name matches (commands.WaveWitness it) = (name ≡ codes "wave") × OpensWaveWitness matches it
Opens name matches (commands.Bench it) = (name ≡ codes "bench") × OpensBench matches it
Opens name matches (commands.Check it) = (name ≡ codes "check") × OpensCheck matches it
Opens name matches (commands.CheckAlive it) = (name ≡ codes "check") × OpensCheckAlive matches it
Opens name matches (commands.Witness it) = (name ≡ codes "witness") × OpensWitness matches it
Opens name matches (commands.ModelWitness it) = (name ≡ codes "witness") × OpensModelWitness matches it
Opens name matches (commands.Reduce it) = (name ≡ codes "reduce") × OpensReduce matches it
Opens name matches (commands.Why it) = (name ≡ codes "why") × OpensWhy matches it
Opens name matches (commands.Cnf it) = (name ≡ codes "cnf") × OpensCnf matches it
Opens name matches (commands.Refute it) = (name ≡ codes "refute") × OpensRefute matches it
Opens name matches (commands.Strengthen it) = (name ≡ codes "strengthen") × OpensStrengthen matches it

-- A command ends as its contract means, with these bytes in its writer, for the bytes of its files, where the type of
-- an open file says which it has left.
abbrev pub EndsAsMeant : {F : Type 0} → Flow Seen → (F → Option (List ℕ)) → Command F → Result (Unit {0}) Exit → Type 0
EndsAsMeant out left (commands.Toaig it) result = EndsToaig out left it result
EndsAsMeant out left (commands.Info it) result = EndsInfo out left it result
EndsAsMeant out left (commands.InfoNames it) result = EndsInfoNames out left it result
EndsAsMeant out left (commands.Select it) result = EndsSelect out left it result
EndsAsMeant out left (commands.SelectNamed it) result = EndsSelectNamed out left it result
EndsAsMeant out left (commands.Cut it) result = EndsCut out left it result
EndsAsMeant out left (commands.Unroll it) result = EndsUnroll out left it result
EndsAsMeant out left (commands.UnrollAndMap it) result = EndsUnrollAndMap out left it result
EndsAsMeant out left (commands.Sim it) result = EndsSim out left it result
EndsAsMeant out left (commands.Wave it) result = EndsWave out left it result
EndsAsMeant out left (commands.WaveWitness it) result = EndsWaveWitness out left it result
EndsAsMeant out left (commands.Bench it) result = EndsBench out left it result
EndsAsMeant out left (commands.Check it) result = EndsCheck out left it result
EndsAsMeant out left (commands.CheckAlive it) result = EndsCheckAlive out left it result
EndsAsMeant out left (commands.Witness it) result = EndsWitness out left it result
EndsAsMeant out left (commands.ModelWitness it) result = EndsModelWitness out left it result
EndsAsMeant out left (commands.Reduce it) result = EndsReduce out left it result
EndsAsMeant out left (commands.Why it) result = EndsWhy out left it result
EndsAsMeant out left (commands.Cnf it) result = EndsCnf out left it result
EndsAsMeant out left (commands.Refute it) result = EndsRefute out left it result
EndsAsMeant out left (commands.Strengthen it) result = EndsStrengthen out left it result

-- What a good end of a command with a verdict says of its files, where the bytes of these are known: that a witness is
-- confirmed, that a run keeps all constraints, or what a proof is about.
abbrev pub MeansGood : {F : Type 0} → (F → Option (List ℕ)) → Command F → Type 0
MeansGood left (commands.Check it) = GoodCheck left it
MeansGood left (commands.CheckAlive it) = GoodCheckAlive left it
MeansGood left (commands.Refute it) = GoodRefute left it
MeansGood left _ = ⊤
