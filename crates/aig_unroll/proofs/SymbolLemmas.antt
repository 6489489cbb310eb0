-- The symbol of an entry.
use Rattle.std.proofs.Common.{◌≡◌, ◌≢◌, ℕ, true, List, [], refl, sym, Contains, AllPairs}
use Rattle.std.specs.Map.{keys_of}
use Rattle.std.proofs.lemmas.Bool.{eqb-true}
use Rattle.aig_parts.specs.declared.symbols.Kind.{Kind}
use Rattle.aig_parts.specs.declared.symbols.Kind.TheVariants as kinds
use Rattle.aig_parts.specs.Letters.{letter}
use Rattle.aig_parts.specs.SymbolPlaces.{Key}
use Rattle.aig_parts.proofs.LetterLemmas.{same_kind}
use Rattle.aig_unroll.specs.InputMap.{is_same, symbol_name_at}
use Rattle.aig_unroll.proofs.InputMapLines.{symbol_found, symbol_missing}

same_itself : (kind : Kind) → is_same kind kind ≡ true
same_itself kinds.Input = refl
same_itself kinds.Latch = refl
same_itself kinds.Output = refl
same_itself kinds.Bad = refl
same_itself kinds.Constraint = refl
same_itself kinds.Justice = refl
same_itself kinds.Fairness = refl

only_same : (kind other : Kind) → is_same kind other ≡ true → other ≡ kind
only_same kind other h = same_kind other kind (eqb-true (letter other) (letter kind) h)

-- the name of an entry that has one, and of one that has none
pub name_found : (symbols : List (Key × List ℕ)) (kind : Kind) (p : ℕ) (name : List ℕ) → Contains symbols ((kind, p), name)
    → AllPairs (λ x y. x ≢ y) (keys_of symbols) → name ≡ symbol_name_at (is_same kind) symbols p
name_found symbols kind p name has once =
    sym (symbol_found (is_same kind) kind (same_itself kind) (only_same kind) symbols p name has once)

pub name_missing : (symbols : List (Key × List ℕ)) (kind : Kind) (p : ℕ) → (Contains (keys_of symbols) (kind, p) → ⊥)
    → [] ≡ symbol_name_at (is_same kind) symbols p
name_missing symbols kind p lacks =
    sym (symbol_missing (is_same kind) kind (same_itself kind) (only_same kind) symbols p lacks)
