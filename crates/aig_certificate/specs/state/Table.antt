-- The table of literals: for each variable of the certificate the literal of the strengthened circuit that it is.
use Rattle.std.specs.Prelude.{◌≡◌, ◌≢◌, ℕ, ◌+◌, ◌*◌, ◌<◌, List, [], ◌∷◌, ◌++◌, length, replicate, Option, Some, None}
use Rattle.std.specs.Prelude.{slice_index, All}
use Rattle.aig_parts.specs.declared.fault.Fault.TheVariants as circuit_faults
use Rattle.aig_parts.specs.declared.raw.Raw.{Raw}
use Rattle.aig_parts.specs.Literal.{variable, with_sign}
use Rattle.aig_base.specs.FirstFault.{IsFirstFault}
use Rattle.aig_base.specs.RenumberingTable.{IsGateListed, IsInTable, IsLatchListed}
use Rattle.aig_certificate.specs.declared.fault.StrengthenFault.{StrengthenFault}
use Rattle.aig_certificate.specs.declared.fault.StrengthenFault.TheVariants as faults
use Rattle.aig_certificate.specs.Shared.{Meanings}
use Rattle.aig_certificate.specs.Strengthened.{IsStrengthened}
use Rattle.aig_parts.specs.Formed.{IsFormed}

-- what an entry with this meaning is, where v is the next variable for own entries
abbrev pub value_of : ℕ → Option ℕ → ℕ
value_of v (Some l) = l
value_of v None = 2 * v

-- the next number for own entries after it
abbrev pub next_after : ℕ → Option ℕ → ℕ
next_after v (Some l) = v
next_after v None = v + 1

-- what each entry with these meanings is: what it stands for, or the next variable from v on
unfoldable pub values_from : ℕ → List (Option ℕ) → List ℕ
values_from v [] = []
values_from v (m ∷ ms) = value_of v m ∷ values_from (next_after v m) ms

-- the meanings of all definitions of the certificate: gates stand for nothing
abbrev pub all_meanings : Meanings → Raw → List (Option ℕ)
all_meanings meanings certificate = meanings.inputs ++ meanings.latches ++ replicate (length certificate.gates) None

-- the table has the values at the first n places for the variables of the literals there
abbrev pub AreEnteredTo : ℕ → List ℕ → List ℕ → List ℕ → Type 0
AreEnteredTo n table literals values =
    (k : ℕ) → k < n → slice_index table (variable (slice_index literals k)) ≡ slice_index values k

abbrev pub AreEntered : List ℕ → List ℕ → List ℕ → Type 0
AreEntered table literals values = AreEnteredTo (length literals) table literals values

-- the literal that a literal is by the table; negations are kept
unfoldable pub literal_by : List ℕ → ℕ → ℕ
literal_by table l = with_sign l (slice_index table (variable l))

-- why the parts of a strengthened circuit are not made, or are no circuit
abbrev pub RefusesParts : Raw → ℕ → Raw → StrengthenFault → Type 0
RefusesParts model p certificate faults.Memory = Unit {0}
RefusesParts model p certificate faults.Limit =
    (x : Raw) × IsStrengthened model p certificate x × (IsFormed x → ⊥)
RefusesParts model p certificate fault = ⊥

-- why parts are no circuit: they are over a limit, or have a fault
abbrev pub RefusesCircuit : Raw → StrengthenFault → Type 0
RefusesCircuit parts faults.Memory = Unit {0}
RefusesCircuit parts faults.Limit = IsFormed parts → ⊥
RefusesCircuit parts (faults.Circuit fault) =
    (fault ≢ circuit_faults.Memory) × IsFormed parts × IsFirstFault parts fault
RefusesCircuit parts fault = ⊥

-- the table has an entry for each literal of the circuit but for justice and fairness
pub record HasLiterals (raw : Raw) (table : List ℕ) : Type 0 where
  pub inputs : All (IsInTable table) raw.inputs
  pub latches : All (IsLatchListed table) raw.latches
  pub outputs : All (IsInTable table) raw.outputs
  pub bad : All (IsInTable table) raw.bad
  pub constraints : All (IsInTable table) raw.constraints
  pub gates : All (IsGateListed table) raw.gates
