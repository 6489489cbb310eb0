-- Entries of a section that have a name.
use Rattle.std.proofs.Common.{◌≡◌, ℕ, List, Option, None, Some}
use Rattle.aig_parts.specs.declared.raw.Raw.{Raw}
use Rattle.aig_parts.specs.declared.symbols.Kind.{Kind}
use Rattle.aig_signals.specs.declared.lookup.Rule.TheVariants as rule
use Rattle.aig_signals.specs.Lookup.{entry_in, or_else, place_by}

module _ (raw : Raw) (name : List ℕ) (kind : Kind) where
  pub entry_first : (p : ℕ) → Some p ≡ place_by raw name kind rule.FirstName → Some p ≡ entry_in raw name kind
  unfolding entry_in
  entry_first p h =
      λ i. or_else (h i) (or_else (place_by raw name kind rule.FurtherWord) (place_by raw name kind rule.Position))

  pub entry_further : (p : ℕ) → None ≡ place_by raw name kind rule.FirstName
      → Some p ≡ place_by raw name kind rule.FurtherWord → Some p ≡ entry_in raw name kind
  unfolding entry_in
  entry_further p h f = λ i. or_else (h i) (or_else (f i) (place_by raw name kind rule.Position))

  pub entry_last : (found : Option ℕ) → None ≡ place_by raw name kind rule.FirstName
      → None ≡ place_by raw name kind rule.FurtherWord → found ≡ place_by raw name kind rule.Position
      → found ≡ entry_in raw name kind
  unfolding entry_in
  entry_last found h f l = λ i. or_else (h i) (or_else (f i) (l i))
