-- What the pairs of a mapping say, in a table.
use Rattle.std.specs.Prelude.{◌≡◌, ◌≢◌, ℕ, ◌+◌, List, length, map, Contains, Option, Some, None, slice_get}
use Rattle.aig_parts.specs.declared.raw.Raw.{Raw}
use Rattle.aig_parts.specs.Literal.{variable}
use Rattle.aig_base.specs.Sound.{StandsTwice}
use Rattle.aig_certificate.specs.declared.fault.StrengthenFault.{StrengthenFault}
use Rattle.aig_certificate.specs.declared.fault.StrengthenFault.TheVariants as faults
use Rattle.aig_certificate.specs.declared.mapping.Pair.{Pair}
use Rattle.aig_certificate.specs.declared.sharing.Sharing.{Sharing}
use Rattle.aig_certificate.specs.declared.sharing.Sharing.TheVariants as by
use Rattle.aig_certificate.specs.Shared as spec
use Rattle.aig_certificate.specs.Shared.{IsPaired, IsSharing, IsWrongMapping}

-- what the pairs say that the variable is, or none where they say nothing of it
abbrev pub IsSaid : List Pair → ℕ → Option ℕ → Type 0
IsSaid pairs v (Some l) = IsPaired pairs v l
IsSaid pairs v None = (pair : Pair) → Contains pairs pair → variable pair.certificate ≢ v

-- the table has it for each of its variables
abbrev pub AreSaid : List Pair → List (Option ℕ) → Type 0
AreSaid pairs table = (v : ℕ) (m : Option ℕ) → slice_get table v ≡ Some m → IsSaid pairs v m

-- the variables of the certificate's literals
abbrev pub own_variables : List Pair → List ℕ
own_variables pairs = map (λ p. variable p.certificate) pairs

-- two pairs are of one variable, or no memory was found
abbrev pub RefusesSaid : List Pair → StrengthenFault → Type 0
RefusesSaid pairs faults.Memory = Unit {0}
RefusesSaid pairs faults.Comment = (v : ℕ) × StandsTwice (own_variables pairs) v
RefusesSaid pairs fault = ⊥

-- how the certificate says what is shared
abbrev pub sharing_of : Sharing → spec.Sharing
sharing_of by.Symbols = spec.symbols
sharing_of (by.Pairs pairs said) = spec.pairs pairs
sharing_of by.Positions = spec.positions

-- the table is the one of the pairs, for each variable of the certificate
abbrev pub HasTable : Raw → Sharing → Type 0
HasTable certificate by.Symbols = Unit {0}
HasTable certificate (by.Pairs pairs said) = (length said ≡ certificate.max_var + 1) × AreSaid pairs said
HasTable certificate by.Positions = Unit {0}

-- the sharing is the certificate's, with its table
pub record IsSharingOf (model certificate : Raw) (sharing : Sharing) : Type 0 where
  pub is : IsSharing model certificate (sharing_of sharing)
  pub table : HasTable certificate sharing

-- the mapping has no pairs, or no memory was found
abbrev pub RefusesSharing : Raw → Raw → StrengthenFault → Type 0
RefusesSharing model certificate faults.Memory = Unit {0}
RefusesSharing model certificate faults.Comment = IsWrongMapping model certificate
RefusesSharing model certificate fault = ⊥
