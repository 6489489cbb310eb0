-- Why a model is not strengthened.
use Rattle.std.proofs.Common.{◌≢◌, ℕ, List, [], AllPairs, sym, subst}
use Rattle.std.specs.Map.{keys_of}
use Rattle.std.proofs.lemmas.List.{append-nil}
use Rattle.aig_parts.specs.declared.raw.Raw.{Raw}
use Rattle.aig_parts.specs.SymbolPlaces.{Key}
use Rattle.aig_certificate.specs.declared.fault.StrengthenFault.{StrengthenFault}
use Rattle.aig_certificate.specs.declared.fault.StrengthenFault.TheVariants as faults
use Rattle.aig_certificate.specs.Answers.{IsReadable, RefusesStrengthening}
use Rattle.aig_certificate.specs.Strengthened.{IsStrengthened}
use Rattle.aig_certificate.specs.state.Marks.{RefusesReading}
use Rattle.aig_certificate.specs.state.Names.{RefusesNames}
use Rattle.aig_certificate.specs.state.Table.{RefusesCircuit, RefusesParts}

module _ (model : Raw) (p : ℕ) (certificate : Raw) where
  pub refuses_names : (x : Raw) → IsStrengthened model p certificate x → (fault : StrengthenFault)
      → RefusesNames x.symbols fault → RefusesParts model p certificate fault
  refuses_names x is faults.Memory h = tt
  refuses_names x is faults.Limit h = (
    x,
    is,
    λ formed. h [] (subst (λ (s : List (Key × List ℕ)). AllPairs (λ a b. a ≢ b) (keys_of s)) (sym (append-nil x.symbols)) formed.names),
  )
  refuses_names x is faults.Comment h = h
  refuses_names x is (faults.Symbol k q) h = h
  refuses_names x is faults.Property h = h
  refuses_names x is (faults.Circuit f) h = h

  pub refuses_reading : (fault : StrengthenFault) → RefusesReading model certificate fault
      → RefusesStrengthening model p certificate fault
  refuses_reading faults.Memory h = tt
  refuses_reading faults.Limit h = absurd h
  refuses_reading faults.Comment h = h
  refuses_reading (faults.Symbol k q) h = h
  refuses_reading faults.Property h = absurd h
  refuses_reading (faults.Circuit f) h = absurd h

  pub refuses_parts : IsReadable model certificate → (fault : StrengthenFault) → RefusesParts model p certificate fault
      → RefusesStrengthening model p certificate fault
  refuses_parts readable faults.Memory h = tt
  refuses_parts readable faults.Limit h = (readable, h)
  refuses_parts readable faults.Comment h = absurd h
  refuses_parts readable (faults.Symbol k q) h = absurd h
  refuses_parts readable faults.Property h = absurd h
  refuses_parts readable (faults.Circuit f) h = absurd h

  pub refuses_circuit : IsReadable model certificate → (x : Raw) → IsStrengthened model p certificate x
      → (fault : StrengthenFault) → RefusesCircuit x fault → RefusesStrengthening model p certificate fault
  refuses_circuit readable x is faults.Memory h = tt
  refuses_circuit readable x is faults.Limit h = (readable, (x, is, h))
  refuses_circuit readable x is faults.Comment h = absurd h
  refuses_circuit readable x is (faults.Symbol k q) h = absurd h
  refuses_circuit readable x is faults.Property h = absurd h
  refuses_circuit readable x is (faults.Circuit f) (other, formed, first) = (readable, other, (x, is, formed, first))
