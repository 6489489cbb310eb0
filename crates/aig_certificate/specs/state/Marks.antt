-- What the symbols of a certificate say, while they are read.
use Rattle.std.specs.Prelude.{◌≡◌, ℕ, ◌<◌, List, decimal, Option, Some, None, slice_get}
use Rattle.aig_parts.specs.declared.raw.Raw.{Raw}
use Rattle.aig_parts.specs.declared.symbols.Kind.{Kind}
use Rattle.aig_parts.specs.SymbolPlaces.{Key}
use Rattle.aig_certificate.specs.declared.fault.StrengthenFault.{StrengthenFault}
use Rattle.aig_certificate.specs.declared.fault.StrengthenFault.TheVariants as faults
use Rattle.aig_certificate.specs.declared.shared.SharedEntries.{SharedEntries}
use Rattle.aig_certificate.specs.Shared.{Meanings, IsBefore, IsMarked, IsMeaning, IsWrong, IsWrongMapping, Sharing}

-- the literal that the symbol of this entry names, or none where it has no such symbol
abbrev pub IsNamedLiteral : Raw → Key → Option ℕ → Type 0
IsNamedLiteral certificate key (Some l) = IsMarked certificate key (decimal l)
IsNamedLiteral certificate key None = (word : List ℕ) → IsMarked certificate key word → ⊥

-- what entries of a section stand for, from the first on
abbrev pub AreMeaningsOf : Raw → Raw → Sharing → Kind → List (Option ℕ) → Type 0
AreMeaningsOf model certificate sharing kind meanings =
    (p : ℕ) (m : Option ℕ) → slice_get meanings p ≡ Some m → IsMeaning model certificate sharing (kind, p) m

-- none of the first n entries of a section is wrong
abbrev pub AreRight : Raw → Raw → Kind → ℕ → Type 0
AreRight model certificate kind n = (p : ℕ) → p < n → IsWrong model certificate (kind, p) → ⊥

-- the fault of the first entry of a section that is wrong, or of memory
abbrev pub IsFirstWrong : Raw → Raw → Kind → StrengthenFault → Type 0
IsFirstWrong model certificate kind faults.Memory = Unit {0}
IsFirstWrong model certificate kind (faults.Symbol k p) =
    (k ≡ kind) × IsWrong model certificate (kind, p) × AreRight model certificate kind p
IsFirstWrong model certificate kind fault = ⊥

-- why a certificate is not read
abbrev pub RefusesReading : Raw → Raw → StrengthenFault → Type 0
RefusesReading model certificate faults.Comment = IsWrongMapping model certificate
RefusesReading model certificate faults.Memory = Unit {0}
RefusesReading model certificate (faults.Symbol kind position) =
    (IsWrongMapping model certificate → ⊥) × IsWrong model certificate (kind, position)
    × ((key : Key) → IsBefore key (kind, position) → IsWrong model certificate key → ⊥)
RefusesReading model certificate fault = ⊥

abbrev pub meanings_of : SharedEntries → Meanings
meanings_of shared = record { inputs = shared.inputs; latches = shared.latches }
