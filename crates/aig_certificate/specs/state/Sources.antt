-- What the strengthened circuit is made of.
use Rattle.std.specs.Prelude.{◌≡◌, ℕ, ◌+◌, ◌*◌, ◌≤◌, [], ◌∷◌, length}
use Rattle.aig_parts.specs.Formed.{limit}
use Rattle.aig_parts.specs.Literal.{negation}
use Rattle.aig_certificate.specs.declared.parts.Property.{Property}
use Rattle.aig_certificate.specs.declared.parts.Sources.{Sources}
use Rattle.aig_certificate.specs.Shared.{AreMeanings}
use Rattle.aig_certificate.specs.Strengthened.{IsTranslation, chain_end, claims}
use Rattle.aig_certificate.specs.state.Marks.{meanings_of}
use Rattle.aig_certificate.specs.state.Table.{literal_by}

-- the meanings are those of the certificate in the model, and the table is theirs
pub record AreSources (sources : Sources) : Type 0 where
  pub meanings : AreMeanings sources.model.now sources.certificate.now (meanings_of sources.shared)
  pub literals : IsTranslation sources.model.now sources.certificate.now (meanings_of sources.shared)
      (literal_by sources.translation.table)
  pub size : length sources.translation.table ≡ sources.certificate.now.max_var + 1

-- bad literal b of the model is 1 or a claim is broken, by gates after this last variable
pub record IsProperty (sources : Sources) (b last : ℕ) (property : Property) : Type 0 where
  pub outputs : property.outputs ≡ b ∷ claims sources.certificate.now (literal_by sources.translation.table)
  pub bad : property.bad ≡ negation (chain_end (last + 1) (negation b)
      (claims sources.certificate.now (literal_by sources.translation.table))) ∷ []
  pub count : property.claims ≡ length (claims sources.certificate.now (literal_by sources.translation.table))
  pub few : property.claims ≤ 2 * limit
