-- How the names of the strengthened circuit are found.
use Rattle.std.specs.Prelude.{◌≡◌, ◌≢◌, ℕ, List, [], ◌∷◌, ◌++◌, length, map, Option, Some, None, slice_get, slice_index}
use Rattle.std.specs.Prelude.{AllPairs}
use Rattle.std.specs.List.{range_with_len}
use Rattle.std.specs.Map.{keys_of}
use Rattle.aig_parts.specs.declared.raw.Raw.{Raw}
use Rattle.aig_parts.specs.declared.symbols.Kind.{Kind}
use Rattle.aig_parts.specs.SymbolPlaces.{Key}
use Rattle.aig_certificate.specs.declared.fault.StrengthenFault.{StrengthenFault}
use Rattle.aig_certificate.specs.declared.fault.StrengthenFault.TheVariants as faults
use Rattle.aig_certificate.specs.declared.symbols.Names.{Names}
use Rattle.aig_certificate.specs.Shared.{AreMeanings, Meanings}
use Rattle.aig_certificate.specs.Strengthened.{certificate_entry, model_entry, own_position, renamed}
use Rattle.aig_certificate.specs.state.Marks.{meanings_of}

-- the new positions of a section's own entries, where the model has n entries
abbrev pub own_positions : ℕ → List (Option ℕ) → List ℕ
own_positions n ms = map (own_position n ms) (range_with_len 0 (length ms))

-- an own entry at its new position, by these positions; a shared entry is gone
abbrev pub entry_by : Kind → List (Option ℕ) → List ℕ → ℕ → Option Key
entry_by kind ms positions p = entry (slice_get ms p)
  where
    entry : Option (Option ℕ) → Option Key
    entry (Some None) = Some (kind, slice_index positions p)
    entry m = None

-- the positions are those of the certificate's own entries
pub record AreNames (names : Names) : Type 0 where
  pub meanings : AreMeanings names.model.now names.certificate.now (meanings_of names.shared.now)
  pub inputs : names.inputs.items ≡ own_positions (length names.model.now.inputs) names.shared.now.inputs
  pub latches : names.latches.items ≡ own_positions (length names.model.now.latches) names.shared.now.latches

-- the name of an entry, if there is one
abbrev pub with_name : Option Key → List ℕ → List (Key × List ℕ)
with_name None name = []
with_name (Some e) name = (e, name) ∷ []

-- an entry has two of these names, or no memory was found
abbrev pub RefusesNames : List (Key × List ℕ) → StrengthenFault → Type 0
RefusesNames symbols faults.Memory = Unit {0}
RefusesNames symbols faults.Limit =
    (rest : List (Key × List ℕ)) → AllPairs (λ x y. x ≢ y) (keys_of (symbols ++ rest)) → ⊥
RefusesNames symbols fault = ⊥

-- the certificate's names at their new entries
abbrev pub new_names : Names → List (Key × List ℕ)
new_names names =
    renamed (certificate_entry names.model.now names.certificate.now (meanings_of names.shared.now))
    names.certificate.now.symbols

-- the names of the strengthened circuit
abbrev pub strengthened_symbols : Raw → ℕ → Raw → Meanings → List (Key × List ℕ)
strengthened_symbols model p certificate meanings =
    renamed (model_entry p) model.symbols ++ renamed (certificate_entry model certificate meanings) certificate.symbols
