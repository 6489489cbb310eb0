-- What `check` answers and writes. How a verdict is written is our own choice.
-- Examples: `aag 1 1 0 0 0 1/2/2/` and `1/b0//1/./`: `confirmed/`, with its trace ` 1  /confirmed/`, with properties
-- ` 1   1 /confirmed/`; for property 1 this witness is refused, as it is one of property 0.
use Rattle.std.specs.Prelude.{◌≡◌, ◌≢◌, ℕ, List, [], ◌++◌, Option, None, Some, Result, Ok, Err, codes, IfSome}
use Rattle.std.specs.Fmt.{decimal}
use Rattle.aig_parts.specs.declared.ternary.Tern.{Tern}
use Rattle.aig_parts.specs.declared.raw.Raw.{Raw}
use Rattle.aig_sim.specs.declared.witness.verdict.Verdict.{Verdict}
use Rattle.aig_sim.specs.declared.witness.verdict.Verdict.TheVariants.{Initial, Constraint, NotBad, Confirmed}
use Rattle.aig_sim.specs.Replayed.{ReportsRun}
use Rattle.aig_sim.specs.Verdict.{IsConfirmed, ShowsVerdict}
use Rattle.aig_sim.specs.WitnessText.{Witness, SpellsWitness, IsWitnessOf, HasWitnessFault}
use Rattle.aig_values.specs.PropertyTrace.{IsPropertyTrace}
use Rattle.aig_values.specs.Trace.{IsTrace}
use Rattle.aig_command.specs.Command.{IsFileOf}
use Rattle.aig_command.specs.declared.run_fault.RunFault.{RunFault}
use Rattle.aig_command.specs.declared.run_fault.RunFault.TheVariants as run_faults
use Rattle.aig_commands.specs.declared.check.Shown.{Shown}
use Rattle.aig_commands.specs.declared.check.Shown.TheVariants.{Properties, Trace}

-- a verdict's line
abbrev pub verdict_text : Verdict → List ℕ
verdict_text (Initial latch) = codes "initial " ++ (decimal latch ++ codes "\n")
verdict_text (Constraint frame constraint) =
    codes "constraint " ++ (decimal frame ++ (codes " " ++ (decimal constraint ++ codes "\n")))
verdict_text NotBad = codes "not bad\n"
verdict_text Confirmed = codes "confirmed\n"

-- a witness of a circuit is refused with this fault, and nothing is written
abbrev pub RefusesWitness : List ℕ → Raw → RunFault → List ℕ → Type 0
RefusesWitness text raw (run_faults.Witness fault) written = HasWitnessFault raw text fault × (written ≡ [])
RefusesWitness text raw _ written = ⊥

-- what `check` answers and writes for a witness of a circuit
abbrev pub Checks : List ℕ → Raw → Result Verdict RunFault → List ℕ → Type 0
Checks text raw (Ok verdict) written = ShowsVerdict raw text verdict × (written ≡ verdict_text verdict)
Checks text raw (Err fault) written = RefusesWitness text raw fault written

-- the trace of a run: that of `sim`, or with properties
abbrev pub IsShown : Shown → Raw → List Tern → List (List Tern) → List ℕ → Type 0
IsShown Trace raw start rows text = IsTrace raw start rows text
IsShown Properties raw start rows text = IsPropertyTrace raw start rows text

-- what `check --trace` answers and writes: the trace of the witness's run, and then the verdict's line
abbrev pub ChecksAndTraces : Shown → List ℕ → Raw → Result Verdict RunFault → List ℕ → Type 0
ChecksAndTraces shown text raw (Ok verdict) written =
    ShowsVerdict raw text verdict
    × ((trace : List ℕ) × ReportsRun (λ raw start rows reported. IsShown shown raw start rows reported) raw text trace
    × (written ≡ trace ++ verdict_text verdict))
ChecksAndTraces shown text raw (Err fault) written = RefusesWitness text raw fault written

-- What a command on a witness answers and writes that may be asked for a property: of a witness of that property what
-- `Means` says, and no other is accepted. If it is asked for none, of each witness what `Means` says.
abbrev pub OfProperty : Option ℕ → (List ℕ → Raw → Result Verdict RunFault → List ℕ → Type 0) → List ℕ → Raw
    → Result Verdict RunFault → List ℕ
    → Type 0
OfProperty None Means text raw answer written = Means text raw answer written
OfProperty (Some asked) Means text raw (Ok verdict) written =
    IsWitnessOf asked raw text × Means text raw (Ok verdict) written
OfProperty (Some asked) Means text raw (Err (run_faults.OtherProperty found other)) written =
    (other ≡ asked) × (found ≢ asked) × IsWitnessOf found raw text × (written ≡ [])
OfProperty (Some asked) Means text raw (Err fault) written = Means text raw (Err fault) written

-- what a writer got begins with this text
abbrev pub Prints : Option (List ℕ) → Option (List ℕ) → List ℕ → Type 0
Prints (Some old) (Some new) text = (rest : List ℕ) × (new ≡ old ++ (text ++ rest))
Prints _ _ text = ⊥

-- this text is somewhere in what a writer got
abbrev pub PrintsWithin : Option (List ℕ) → Option (List ℕ) → List ℕ → Type 0
PrintsWithin (Some old) (Some new) text =
    (front : List ℕ) × (rest : List ℕ) × (new ≡ old ++ (front ++ (text ++ rest)))
PrintsWithin _ _ text = ⊥

-- the text is a witness of the circuit that reaches its property, whatever its x turn out to be
abbrev pub HoldsConfirmed : Raw → List ℕ → Type 0
HoldsConfirmed raw text = (witness : Witness) × SpellsWitness raw text witness × IsConfirmed raw witness

-- the files are a circuit and such a witness of it, and one of the property that is asked for, if one is
abbrev pub AreConfirmed : Option ℕ → List ℕ → List ℕ → Type 0
AreConfirmed asked file text =
    (raw : Raw) × IsFileOf file raw × HoldsConfirmed raw text × IfSome asked (λ property. IsWitnessOf property raw text)
