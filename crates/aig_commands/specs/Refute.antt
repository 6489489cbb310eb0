-- What `refute` answers: that no run reaches a bad state within some frames, or with a proof of the induction step,
-- that no run of any length does.
-- Examples: `aag 1 1 0 0 0 1/2/2/`: neither, of property 0; for 3 frames: `unreachable within 3/`; with a proof of the
-- step `unreachable/`.
use Rattle.std.specs.Prelude.{◌≡◌, ◌⊎◌, ℕ, List, [], ◌++◌, codes, decimal, Result, Ok, Err}
use Rattle.aig_parts.specs.declared.raw.Raw.{Raw}
use Rattle.aig_cnf.specs.Query.{induction, step, within}
use Rattle.aig_cnf.specs.ReadFormula.{HasReadFormula, RefusesReadFormula}
use Rattle.aig_cnf.specs.declared.query.Query.{Query}
use Rattle.aig_cnf.specs.declared.query.Goal.{Goal}
use Rattle.aig_cnf.specs.declared.query.Goal.TheVariants as goals
use Rattle.aig_sat.specs.declared.proof.fault.ProofFault.{ProofFault}
use Rattle.aig_refute.specs.Checked.{check_reads_failed}
use Rattle.aig_refute.specs.Unreachable.{IsUnreachable, IsUnreachableWithin}
use Rattle.aig_command.specs.declared.run_fault.RunFault.{RunFault}
use Rattle.aig_command.specs.declared.run_fault.RunFault.TheVariants as run_faults
use Rattle.aig_command.specs.Command.{IsFileOf}

-- What the check of a proof about the formula of a query shows of a circuit, where it is one; or there is no formula,
-- or the proof is refused.
abbrev pub ChecksProof : Query → (Raw → Type 0) → Raw → Result (Unit {0}) RunFault → Type 0
ChecksProof query Shows raw (Ok done) = HasReadFormula raw query × Shows raw
ChecksProof query Shows raw (Err (run_faults.Cnf fault)) = RefusesReadFormula raw query fault
ChecksProof query Shows raw (Err (run_faults.Proof fault)) = HasReadFormula raw query
ChecksProof query Shows raw (Err _) = ⊥

-- that no run reaches bad p within k frames
abbrev pub ChecksWithin : ℕ → ℕ → Raw → Result (Unit {0}) RunFault → Type 0
ChecksWithin k p = ChecksProof (within k p) (λ raw. IsUnreachableWithin raw k p)

-- that no run of any length reaches the one bad state property, by an induction over one frame
abbrev pub ChecksInduction : Raw → Result (Unit {0}) RunFault → Type 0
ChecksInduction = ChecksProof (induction 1 0) (λ raw. IsUnreachable raw 0)

-- both formulas are there
abbrev pub HasFormulas : ℕ → ℕ → Raw → Type 0
HasFormulas k p raw = HasReadFormula raw (within k p) × HasReadFormula raw (step k p)

-- What the check of two proofs says: no run of any length reaches bad p; or one of the formulas is not there, or a
-- proof is refused.
abbrev pub ChecksStep : ℕ → ℕ → Raw → Result (Unit {0}) RunFault → Type 0
ChecksStep k p raw (Ok done) = HasFormulas k p raw × IsUnreachable raw p
ChecksStep k p raw (Err (run_faults.Cnf fault)) =
    RefusesReadFormula raw (within k p) fault ⊎ (HasReadFormula raw (within k p) × RefusesReadFormula raw (step k p) fault)
ChecksStep k p raw (Err (run_faults.Proof fault)) = HasFormulas k p raw
ChecksStep k p raw (Err (run_faults.StepProof fault)) = HasFormulas k p raw
ChecksStep k p raw (Err _) = ⊥

-- the line that answers
abbrev pub answer_line : Goal → ℕ → List ℕ
answer_line goals.Within k = codes "unreachable within " ++ (decimal k ++ codes "\n")
answer_line goals.Last k = codes "no run of " ++ (decimal k ++ codes " frames\n")
answer_line goals.Step k = codes "unreachable\n"
answer_line goals.Induction k = codes "unreachable\n"

-- it is written where all went well, and else nothing
abbrev pub answer_text : List ℕ → Result (Unit {0}) RunFault → List ℕ
answer_text line (Ok done) = line
answer_text line (Err fault) = []

-- what `refute` writes for a circuit, with a proof of the step, and for a strengthened circuit
abbrev pub Refutes : ℕ → ℕ → Raw → Result (Unit {0}) RunFault → List ℕ → Type 0
Refutes k p raw answer text = ChecksWithin k p raw answer × (text ≡ answer_text (answer_line goals.Within k) answer)

abbrev pub RefutesStep : ℕ → ℕ → Raw → Result (Unit {0}) RunFault → List ℕ → Type 0
RefutesStep k p raw answer text = ChecksStep k p raw answer × (text ≡ answer_text (answer_line goals.Step k) answer)

abbrev pub RefutesInduction : Raw → Result (Unit {0}) RunFault → List ℕ → Type 0
RefutesInduction raw answer text =
    ChecksInduction raw answer × (text ≡ answer_text (answer_line goals.Induction 1) answer)

-- the file is one of a circuit in which no run reaches bad p within k frames
abbrev pub IsFileUnreachable : List ℕ → ℕ → ℕ → Type 0
IsFileUnreachable file k p = (raw : Raw) × IsFileOf file raw × IsUnreachableWithin raw k p

-- the file is one of a circuit in which no run of any length reaches bad p
abbrev pub IsFileNeverReached : List ℕ → ℕ → Type 0
IsFileNeverReached file p = (raw : Raw) × IsFileOf file raw × IsUnreachable raw p

-- how many reads of the proof failed, by the answer
abbrev pub proof_reads_failed : Result (Unit {0}) RunFault → ℕ
proof_reads_failed (Ok done) = 0
proof_reads_failed (Err (run_faults.Proof fault)) = check_reads_failed (Err fault)
proof_reads_failed (Err _) = 0

-- how many reads of the step's proof failed
abbrev pub step_reads_failed : Result (Unit {0}) RunFault → ℕ
step_reads_failed (Ok done) = 0
step_reads_failed (Err (run_faults.StepProof fault)) = check_reads_failed (Err fault)
step_reads_failed (Err _) = 0
