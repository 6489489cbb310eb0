-- When a model is strengthened by a certificate, and why not (our own choice).
use Rattle.std.specs.Prelude.{◌≢◌, ℕ, ◌<◌, ◌≤◌, length}
use Rattle.aig_parts.specs.declared.fault.Fault.TheVariants as circuit_faults
use Rattle.aig_parts.specs.declared.raw.Raw.{Raw}
use Rattle.aig_parts.specs.Formed.{IsFormed}
use Rattle.aig_parts.specs.SymbolPlaces.{Key}
use Rattle.aig_base.specs.FirstFault.{IsFirstFault}
use Rattle.aig_certificate.specs.Shared.{IsBefore, IsWrong, IsWrongMapping}
use Rattle.aig_certificate.specs.Strengthened.{IsStrengthened}
use Rattle.aig_certificate.specs.declared.fault.StrengthenFault.{StrengthenFault}
use Rattle.aig_certificate.specs.declared.fault.StrengthenFault.TheVariants as faults

-- a mapping in the comment that is read has a pair in each line, and each symbol that begins with `= ` names a literal of
-- the model
pub record IsReadable (model certificate : Raw) : Type 0 where
  pub mapping : IsWrongMapping model certificate → ⊥
  pub symbols : (key : Key) → IsWrong model certificate key → ⊥

-- property p is there, and the strengthened circuit is within the limits
pub record CanStrengthen (model : Raw) (p : ℕ) (certificate : Raw) : Type 0 where
  pub readable : IsReadable model certificate
  pub property : p < length model.bad
  pub limits : (x : Raw) × IsStrengthened model p certificate x × IsFormed x

-- the fault is the first that applies; out of memory may come in any case
abbrev pub RefusesStrengthening : Raw → ℕ → Raw → StrengthenFault → Type 0
RefusesStrengthening model p certificate faults.Comment = IsWrongMapping model certificate
RefusesStrengthening model p certificate (faults.Symbol kind position) =
    (IsWrongMapping model certificate → ⊥) × IsWrong model certificate (kind, position)
    × ((key : Key) → IsBefore key (kind, position) → IsWrong model certificate key → ⊥)
RefusesStrengthening model p certificate faults.Property = IsReadable model certificate × (length model.bad ≤ p)
RefusesStrengthening model p certificate faults.Limit =
    IsReadable model certificate × ((x : Raw) × IsStrengthened model p certificate x × (IsFormed x → ⊥))
RefusesStrengthening model p certificate (faults.Circuit fault) =
    IsReadable model certificate × (fault ≢ circuit_faults.Memory)
    × ((x : Raw) × IsStrengthened model p certificate x × IsFormed x × IsFirstFault x fault)
RefusesStrengthening model p certificate faults.Memory = Unit {0}
