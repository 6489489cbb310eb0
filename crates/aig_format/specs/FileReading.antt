-- What reading a file answers.
-- Example: `aag 1 1 0 1 0/2/4/` is spelled, and `Range` is its first fault.
use Rattle.std.specs.Prelude.{◌≡◌, ◌≢◌, ℕ, ◌+◌, ◌<◌, List, Result, Ok, Err, IfOk, IfErr}
use Rattle.aig_parts.specs.declared.fault.Fault.{Fault}
use Rattle.aig_parts.specs.declared.fault.Fault.TheVariants as faults
use Rattle.aig_parts.specs.declared.raw.Raw.{Raw}
use Rattle.aig_base.specs.FirstFault.{fault_order, IsFirstFault}
use Rattle.aig_format.specs.Spells.{Spells, HasWrongCounts}

-- the fault is one that the parts have
abbrev pub IsOfParts : Fault → Type 0
IsOfParts fault = (3 < fault_order fault) × (fault_order fault < 10)

-- the parts themselves or their first fault, or memory ran out
abbrev pub AnswersParts : Result Raw Fault → Raw → Type 0
AnswersParts (Ok circuit) raw = circuit ≡ raw
AnswersParts (Err fault) raw = fault ≢ faults.Memory → IsFirstFault raw fault

-- this refusal, or memory ran out
abbrev pub IsRefused : Result Raw Fault → Fault → Type 0
IsRefused (Ok circuit) why = ⊥
IsRefused (Err fault) why = fault ≢ faults.Memory → fault ≡ why

-- What reading a file of these bytes answers, where no read failed.
pub record IsReading (bytes : List ℕ) (result : Result Raw Fault) : Type 0 where
  -- what is read is spelled so
  pub found : IfOk result (λ circuit. Spells bytes circuit)
  -- where parts are spelled, they are read, or their first fault is reported; so faults of the text come nowhere else
  pub only : (raw : Raw) → Spells bytes raw → AnswersParts result raw
  -- a fault of parts is reported only of parts that are spelled
  pub of_parts : IfErr result (λ fault. IsOfParts fault → (raw : Raw) × Spells bytes raw × IsFirstFault raw fault)
  -- the fault of the counts comes where the header line is spelled and they do not go together, and only there
  pub counts : result ≡ Err faults.Counts → HasWrongCounts bytes
  pub wrong : HasWrongCounts bytes → IsRefused result faults.Counts

-- the count of failed reads rises by one where the answer says that a read failed, and only there
abbrev pub FaultRaises : Fault → ℕ → ℕ → Type 0
FaultRaises faults.Io old new = new ≡ old + 1
FaultRaises fault old new = new ≡ old

abbrev pub Raises : {X : Type 0} → Result X Fault → ℕ → ℕ → Type 0
Raises (Ok x) old new = new ≡ old
Raises (Err e) old new = FaultRaises e old new
