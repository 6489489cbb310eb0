-- What a reduction answers (our own choice).
-- Example: `01x`: `constraint 0 0`.
use Rattle.std.specs.Prelude.{◌≢◌, ℕ, ◌+◌, ◌*◌, ◌<◌, ◌≤◌, List, length}
use Rattle.aig_parts.specs.Limits.{cell_limit}
use Rattle.aig_parts.specs.declared.raw.Raw.{Raw}
use Rattle.aig_sim.specs.declared.witness.verdict.Verdict.TheVariants as verdict
use Rattle.aig_sim.specs.Verdict.{IsVerdict}
use Rattle.aig_sim.specs.WitnessText.{Witness, SpellsWitness, IsAdmitted, HasWitnessFault}
use Rattle.aig_bench.specs.declared.bench.fault.BenchFault.TheVariants as bench_faults
use Rattle.aig_reduce.specs.declared.fault.ReduceFault.{ReduceFault}
use Rattle.aig_reduce.specs.declared.fault.ReduceFault.TheVariants as faults
use Rattle.aig_reduce.specs.declared.reduction.Reduction.{Reduction}
use Rattle.aig_reduce.specs.declared.reduction.Reduction.TheVariants as reductions
use Rattle.aig_reduce.specs.Reduction.{IsReduced}

-- the text is this witness of the circuit, whose cells are within the limit of a bench
pub record IsGiven (raw : Raw) (text : List ℕ) (given : Witness) : Type 0 where
  pub text_is : SpellsWitness raw text given
  pub admitted : IsAdmitted raw given
  pub cells : (raw.max_var + 1) * length given.rows ≤ cell_limit

-- the reduced witness of one that is confirmed, or another verdict
abbrev pub Answers : Raw → Witness → Reduction → Type 0
Answers raw given (reductions.Reduced new) = IsVerdict raw given verdict.Confirmed × IsReduced raw given new
Answers raw given (reductions.Refused v) = (v ≢ verdict.Confirmed) × IsVerdict raw given v

abbrev pub AnswersReduction : Raw → List ℕ → Reduction → Type 0
AnswersReduction raw text reduction = (given : Witness) × IsGiven raw text given × Answers raw given reduction

-- the first fault: one of the witness, too many cells, or no memory for a bench
abbrev pub RefusesReduction : Raw → List ℕ → ReduceFault → Type 0
RefusesReduction raw text (faults.Witness fault) = HasWitnessFault raw text fault
RefusesReduction raw text (faults.Bench bench_faults.Width) = ⊥
RefusesReduction raw text (faults.Bench bench_faults.Limit) =
    (given : Witness) × SpellsWitness raw text given × IsAdmitted raw given
    × (cell_limit < (raw.max_var + 1) * length given.rows)
RefusesReduction raw text (faults.Bench bench_faults.Memory) = Unit {0}
