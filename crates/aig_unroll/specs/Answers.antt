-- What unrolling a circuit for k frames returns. Where the standard is silent, this is our own choice.
-- Example: for 0 frames `NoFrames`, number 9.
use Rattle.std.specs.Prelude.{◌≡◌, ℕ, ◌<◌, List, Result, Ok, Err}
use Rattle.aig_parts.specs.declared.raw.Raw.{Raw}
use Rattle.aig_base.specs.Order.{IsCanonicalOrder}
use Rattle.aig_unroll.specs.declared.fault.UnrollFault.{UnrollFault}
use Rattle.aig_unroll.specs.declared.fault.UnrollFault.TheVariants as faults
use Rattle.aig_unroll.specs.Unrollable.{HasLiveness, FitsLimits}
use Rattle.aig_unroll.specs.Unrolled.{unrolled}

abbrev pub unroll_fault_number : UnrollFault → ℕ
unroll_fault_number faults.NoFrames = 9
unroll_fault_number faults.Liveness = 12
unroll_fault_number faults.Limit = 10
unroll_fault_number faults.Memory = 11

-- nothing but memory that runs out can refuse it
pub record IsUnrollable (raw : Raw) (k : ℕ) : Type 0 where
  pub frames : 0 < k
  pub no_liveness : HasLiveness raw → ⊥
  pub limits : FitsLimits raw k

-- it is the circuit unrolled for k frames, with the gates of a frame in the canonical order
abbrev pub IsUnrolled : Raw → ℕ → Raw → Type 0
IsUnrolled raw k new = (order : List ℕ) × IsCanonicalOrder raw order × (new ≡ unrolled raw order k)

-- the fault is the first that applies; no memory was found only where none of the others applies
abbrev pub RefusesUnrolling : Raw → ℕ → UnrollFault → Type 0
RefusesUnrolling raw k faults.NoFrames = k ≡ 0
RefusesUnrolling raw k faults.Liveness = (0 < k) × HasLiveness raw
RefusesUnrolling raw k faults.Limit = (0 < k) × (HasLiveness raw → ⊥) × (FitsLimits raw k → ⊥)
RefusesUnrolling raw k faults.Memory = IsUnrollable raw k

-- the answer is the unrolled circuit, or the first fault
abbrev pub AnswersUnrolling : Raw → ℕ → Result Raw UnrollFault → Type 0
AnswersUnrolling raw k (Ok new) = IsUnrollable raw k × IsUnrolled raw k new
AnswersUnrolling raw k (Err fault) = RefusesUnrolling raw k fault
