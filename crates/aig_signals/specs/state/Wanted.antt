-- Which properties of a section have the names that are wanted, as the program holds them.
use Rattle.std.specs.Prelude.{◌≡◌, ◌⊎◌, ℕ, List, Option, Some, IfSome}
use Rattle.aig_parts.specs.declared.raw.Raw.{Raw}
use Rattle.aig_parts.specs.declared.symbols.Kind.{Kind}
use Rattle.aig_base.specs.declared.select.PropertySection.{PropertySection}
use Rattle.aig_signals.specs.Property.{AreLeastNamed, HasName, IsOnlyNamed}
use Rattle.aig_signals.specs.declared.property.lookup.Found.{Found}
use Rattle.aig_signals.specs.declared.property.lookup.Found.TheVariants as found
use Rattle.aig_signals.specs.state.Found.{Adds}

-- what is found of a name in a section: no position that has it, the only one, or the two least
abbrev pub IsFound : Raw → PropertySection → List ℕ → Found → Type 0
IsFound raw section name found.Nothing = (p : ℕ) → HasName raw section name p → ⊥
IsFound raw section name (found.One p) = IsOnlyNamed raw section name p
IsFound raw section name (found.Two p q) = AreLeastNamed raw section name p q

-- An entry that has a name was looked at: a name x that is wanted was found at one more position, if it is the name of
-- the entry and that is in the section, and else it has what it had.
abbrev pub LooksAt : Kind → Kind → ℕ → List ℕ → List ℕ → Option Found → Option Found → Type 0
LooksAt wanted kind position name x old new = IfSome new (λ now.
    ((kind ≡ wanted) × (name ≡ x) × ((was : Found) × (old ≡ Some was) × Adds was position now))
    ⊎ ((kind ≡ wanted → name ≡ x → ⊥) × (old ≡ Some now)))
