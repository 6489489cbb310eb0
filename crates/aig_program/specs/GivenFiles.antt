-- The file of a run that is given with a circuit.
-- Example: that of a witness which has 5 bytes left gives these 5.
use Rattle.std.specs.Prelude.{ℕ, List, Option, None, Some, option_map, ⊤}
use Rattle.std.specs.Global.{Vec}
use Rattle.aig_command.specs.declared.given.Given.{Given}
use Rattle.aig_command.specs.declared.given.Given.TheVariants as given
use Rattle.aig_files.specs.declared.part.Part.{Part}
use Rattle.aig_files.specs.declared.part.Part.TheVariants as parts

-- the text that the open file has left, where it is known
abbrev pub given_left : {F : Type 0} → (F → Option (List ℕ)) → Given F → Option (Given (List ℕ))
given_left left given.Nothing = Some given.Nothing
given_left left (given.Stimulus file) = option_map given.Stimulus (left file)
given_left left (given.Witness file) = option_map given.Witness (left file)

-- what the file is called where it is not read
abbrev pub given_part : {F : Type 0} → Given F → Part
given_part (given.Witness file) = parts.Witness
given_part _ = parts.Stimulus

-- the text that was read
abbrev pub given_items : Given (Vec ℕ) → Given (List ℕ)
given_items given.Nothing = given.Nothing
given_items (given.Stimulus text) = given.Stimulus text.items
given_items (given.Witness text) = given.Witness text.items

-- it names a property
abbrev pub IsWitness : {F : Type 0} → Given F → Type 0
IsWitness (given.Witness file) = ⊤
IsWitness _ = ⊥
