-- What `cnf --alive` writes and `refute --alive` answers: whether a run keeps all constraints of a circuit.
-- Example: `no run of 2 frames`.
use Rattle.std.specs.Prelude.{◌≡◌, ℕ, List, [], Result, Ok, Err}
use Rattle.aig_parts.specs.declared.raw.Raw.{Raw}
use Rattle.aig_cnf.specs.CnfText.{read_text}
use Rattle.aig_cnf.specs.ReadFormula.{HasReadAliveFormula, IsReadAliveOf, ReadCnf, RefusesReadAlive}
use Rattle.aig_cnf.specs.declared.heading.Heading.TheVariants.{Alive}
use Rattle.aig_cnf.specs.declared.query.Goal.TheVariants as goals
use Rattle.aig_refute.specs.Unreachable.{HasNoRun}
use Rattle.aig_command.specs.Command.{IsFileOf}
use Rattle.aig_command.specs.declared.run_fault.RunFault.{RunFault}
use Rattle.aig_command.specs.declared.run_fault.RunFault.TheVariants as run_faults
use Rattle.aig_commands.specs.Refute.{answer_line, answer_text}

-- the bytes are the text of the formula that a run keeps all constraints at k frames, with the circuit's own names
abbrev pub IsAliveText : Raw → ℕ → List ℕ → Type 0
IsAliveText raw k text = (read : ReadCnf) × IsReadAliveOf raw k read × (text ≡ read_text raw (Alive k) read)

-- what `cnf --alive` writes for a circuit: the formula, or nothing where there is none
abbrev pub WritesAlive : ℕ → Raw → Result (Unit {0}) RunFault → List ℕ → Type 0
WritesAlive k raw (Ok done) text = HasReadAliveFormula raw k × IsAliveText raw k text
WritesAlive k raw (Err (run_faults.Cnf fault)) text = RefusesReadAlive raw k fault × (text ≡ [])
WritesAlive k raw (Err _) text = ⊥

-- what the check of a proof about it says: no run keeps all constraints at k frames; or there is no formula, or the
-- proof is refused
abbrev pub ChecksAlive : ℕ → Raw → Result (Unit {0}) RunFault → Type 0
ChecksAlive k raw (Ok done) = HasReadAliveFormula raw k × HasNoRun raw k
ChecksAlive k raw (Err (run_faults.Cnf fault)) = RefusesReadAlive raw k fault
ChecksAlive k raw (Err (run_faults.Proof fault)) = HasReadAliveFormula raw k
ChecksAlive k raw (Err _) = ⊥

-- what `refute --alive` writes for a circuit
abbrev pub RefutesAlive : ℕ → Raw → Result (Unit {0}) RunFault → List ℕ → Type 0
RefutesAlive k raw answer text = ChecksAlive k raw answer × (text ≡ answer_text (answer_line goals.Last k) answer)

-- the file is one of a circuit in which no run keeps all constraints at k frames
abbrev pub IsFileWithoutRun : List ℕ → ℕ → Type 0
IsFileWithoutRun file k = (raw : Raw) × IsFileOf file raw × HasNoRun raw k
