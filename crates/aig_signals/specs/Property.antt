-- Which property a text names (our own choice): by its number, or else by its symbol.
-- Example: `3` and `b3` are position 3.
use Rattle.std.specs.Prelude.{◌≡◌, ◌⊎◌, ℕ, ◌<◌, ◌≤◌, ◌^◌, List, ◌∷◌, decimal, Contains}
use Rattle.aig_parts.specs.Letters.{letter}
use Rattle.aig_parts.specs.declared.raw.Raw.{Raw}
use Rattle.aig_base.specs.Selected.{kind_of}
use Rattle.aig_base.specs.declared.select.PropertySection.{PropertySection}
use Rattle.aig_signals.specs.declared.property.fault.PropertyFault.{PropertyFault}
use Rattle.aig_signals.specs.declared.property.fault.PropertyFault.TheVariants as faults

-- the text is the number in decimal, or that with the letter of the section before it, as in `b3`
abbrev pub IsNumbered : PropertySection → List ℕ → ℕ → Type 0
IsNumbered section text p = (text ≡ decimal p) ⊎ (text ≡ letter (kind_of section) ∷ decimal p)

-- it is no such number of 32 bits
abbrev pub IsUnnumbered : PropertySection → List ℕ → Type 0
IsUnnumbered section text = (p : ℕ) → p < 2 ^ 32 → IsNumbered section text p → ⊥

-- the property at this position has this name
abbrev pub HasName : Raw → PropertySection → List ℕ → ℕ → Type 0
HasName raw section name p = Contains raw.symbols ((kind_of section, p), name)

-- and no other one has it
abbrev pub IsOnlyNamed : Raw → PropertySection → List ℕ → ℕ → Type 0
IsOnlyNamed raw section name p = HasName raw section name p × ((q : ℕ) → HasName raw section name q → q ≡ p)

-- two positions have this name, and each other position that has it is greater than both
abbrev pub AreLeastNamed : Raw → PropertySection → List ℕ → ℕ → ℕ → Type 0
AreLeastNamed raw section name p q =
    (p < q) × HasName raw section name p × HasName raw section name q
    × ((r : ℕ) → HasName raw section name r → (r ≡ p) ⊎ (q ≤ r))

-- why a name is that of no property, or of more than one
abbrev pub RefusesName : Raw → PropertySection → List ℕ → PropertyFault → Type 0
RefusesName raw section name faults.Name = (p : ℕ) → HasName raw section name p → ⊥
RefusesName raw section name (faults.Twice p q) = AreLeastNamed raw section name p q

-- the text names the property at this position: by its number, or else by a name that no other one has
abbrev pub IsPosition : Raw → PropertySection → List ℕ → ℕ → Type 0
IsPosition raw section text p = IsNumbered section text p ⊎ IsUnnumbered section text × IsOnlyNamed raw section text p

-- why it names none
abbrev pub RefusesProperty : Raw → PropertySection → List ℕ → PropertyFault → Type 0
RefusesProperty raw section text fault = IsUnnumbered section text × RefusesName raw section text fault

-- the names of a section of a circuit, as contracts see a table of them
pub record NamesOf : Type 0 where
  pub circuit : Raw
  pub section : PropertySection
