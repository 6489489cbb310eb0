-- What `reduce` answers and writes: a witness with x in place of each value that its failure does not need (our own
-- choice).
-- Example: input 2 is bad: for `1/b0//0/1/./` it is `1/b0//x/1/./`; for `1/b0//0/./` `not bad/`.
use Rattle.std.specs.Prelude.{◌≡◌, ℕ, List, [], Result, Ok, Err}
use Rattle.std.specs.Fmt.{decimal}
use Rattle.aig_parts.specs.declared.raw.Raw.{Raw}
use Rattle.aig_sim.specs.declared.witness.verdict.Verdict.{Verdict}
use Rattle.aig_sim.specs.declared.witness.verdict.Verdict.TheVariants as verdicts
use Rattle.aig_sim.specs.Verdict.{IsVerdict}
use Rattle.aig_sim.specs.WitnessText.{Witness, IsDecimal, SpellsWitness, witness_text}
use Rattle.aig_command.specs.declared.run_fault.RunFault.{RunFault}
use Rattle.aig_command.specs.declared.run_fault.RunFault.TheVariants as run_faults
use Rattle.aig_reduce.specs.declared.fault.ReduceFault.TheVariants as reduce_faults
use Rattle.aig_reduce.specs.declared.reduction.Reduction.{Reduction}
use Rattle.aig_reduce.specs.declared.reduction.Reduction.TheVariants as reductions
use Rattle.aig_reduce.specs.Answers.{IsGiven, RefusesReduction}
use Rattle.aig_reduce.specs.Irreducible.{HoldsReduced}
use Rattle.aig_reduce.specs.Reduction.{IsReduced}
use Rattle.aig_commands.specs.Check.{verdict_text}

-- The given witness is confirmed, and a reduced one is written. That one is confirmed, each of its values is the given
-- one or x, and no more of them can be x. Of all such witnesses it is the one that is found value by value.
pub record WritesReduced (raw : Raw) (text written : List ℕ) : Type 0 where
  pub given : Witness
  pub given_is : IsGiven raw text given
  pub confirmed : IsVerdict raw given verdicts.Confirmed
  pub new : Witness
  pub spelled : SpellsWitness raw written new
  pub holds : HoldsReduced raw given new
  pub reduced : IsReduced raw given new

-- the given witness has this verdict, whose line is written
pub record WritesVerdict (raw : Raw) (text : List ℕ) (verdict : Verdict) (written : List ℕ) : Type 0 where
  pub given : Witness
  pub given_is : IsGiven raw text given
  pub verdict_is : IsVerdict raw given verdict
  pub written_is : written ≡ verdict_text verdict

-- why no witness is reduced: its own first fault, or else one of the bench that simulates its run
abbrev pub RefusesToReduce : List ℕ → Raw → RunFault → Type 0
RefusesToReduce text raw (run_faults.Witness fault) = RefusesReduction raw text (reduce_faults.Witness fault)
RefusesToReduce text raw (run_faults.Bench fault) = RefusesReduction raw text (reduce_faults.Bench fault)
RefusesToReduce text raw _ = ⊥

-- what `reduce` answers and writes for a witness of a circuit
abbrev pub Reduces : List ℕ → Raw → Result Verdict RunFault → List ℕ → Type 0
Reduces text raw (Ok verdicts.Confirmed) written = WritesReduced raw text written
Reduces text raw (Ok verdict) written = WritesVerdict raw text verdict written
Reduces text raw (Err fault) written = RefusesToReduce text raw fault × (written ≡ [])

-- the verdict of the witness that was to be reduced
abbrev pub verdict_of : Reduction → Verdict
verdict_of (reductions.Reduced new) = verdicts.Confirmed
verdict_of (reductions.Refused verdict) = verdict

-- the text of the reduced witness, or the line of another verdict
abbrev pub reduction_text : Reduction → List ℕ
reduction_text (reductions.Reduced new) = witness_text (decimal new.property) new.start new.rows
reduction_text (reductions.Refused verdict) = verdict_text verdict

-- the position of a reduced witness's property is written in decimal
abbrev pub HasDecimalPosition : Reduction → Type 0
HasDecimalPosition (reductions.Reduced new) = IsDecimal (decimal new.property) new.property
HasDecimalPosition (reductions.Refused verdict) = Unit {0}
