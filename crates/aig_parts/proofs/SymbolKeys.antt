-- The derived `==` on the keys of symbols is equality.
use Rattle.std.proofs.Common.{◌≡◌, ℕ, Bool, ◌&&◌, nat_eq, refl, sym, ap, rules, Contains}
use Rattle.std.specs.Bool.{Decides}
use Rattle.std.specs.Cmp.{IsEquivalence}
use Rattle.std.proofs.lemmas.Bool.Decides.{Decides-eqb, same_from_decides}
use denote.Enum.Bare.{sameb, same_true, true_same}
use Rattle.std.proofs.Common.{◌∷◌, ◌++◌, [], Option, Some, None, IsSome}
use Rattle.std.specs.Map.{keys_of}
use Rattle.std.proofs.lemmas.Map.Views.{hash_map_contains_key_iff}
use Rattle.std.proofs.lemmas.Bool.{and_parts, and_from}
use Rattle.indexmap.specs.IndexMap.{IndexMap, get, insert_entry}
use Rattle.indexmap.proofs.CallerLemmas.{insert_entry-new}
use Rattle.aig_parts.specs.declared.symbols.Kind.{Kind}
use Rattle.aig_parts.specs.contracts.symbols.Kind.{the_type}

-- what the derived `==` of the tuple computes
abbrev pub key_eq : Kind × ℕ → Kind × ℕ → Bool
key_eq x y = sameb the_type x.0 y.0 && nat_eq x.1 y.1

pub key_same : (x y : Kind × ℕ) → Decides (key_eq x y) (x ≡ y)
key_same x y = (
  λ h. let both = and_parts (sameb the_type x.0 y.0) (nat_eq x.1 y.1) h in
      (λ i. (same_true the_type (search rules) x.0 y.0 both.0 i, (Decides-eqb x.1 y.1).0 both.1 i)),
  λ e. and_from _ _ (true_same the_type x.0 y.0 (ap (λ p. p.0) e)) ((Decides-eqb x.1 y.1).1 (ap (λ p. p.1) e)),
)

module _ {K : Type 0} {eq : K → K → Bool} (same : (x y : K) → Decides (eq x y) (x ≡ y)) where
  -- a test that decides equality is an equivalence
  pub equivalence_from_same : IsEquivalence eq
  equivalence_from_same = record {
    refl = λ x. (same x x).1 refl;
    symm = λ x y. same_from_decides (eq x y) (eq y x) (same x y) (λ h. sym ((same y x).0 h), λ e. (same y x).1 (sym e));
    congr = λ x y z h. ap (λ w. eq w z) ((same x y).0 h);
  }

pub key_laws : IsEquivalence key_eq
key_laws = equivalence_from_same key_same

module _ {X S : Type 0} (m : IndexMap (Kind × ℕ) X S) (k : Kind × ℕ) (v : X) where
  none_from_absent : (o : Option X) → get key_eq m k ≡ o → (IsSome o → ⊥) → get key_eq m k ≡ None
  none_from_absent None e lacks = e
  none_from_absent (Some x) e lacks = absurd (lacks refl)

  -- an entry whose key is new goes to the end
  pub insert_at_end : (Contains (keys_of m.entries) k → ⊥) → insert_entry key_eq m.entries k v ≡ m.entries
      ++ (k, v) ∷ []
  insert_at_end lacks =
      insert_entry-new key_eq m k v
      (none_from_absent (get key_eq m k) refl (λ some. lacks ((hash_map_contains_key_iff {eq = key_eq} key_laws (λ x y.
      (key_same x y).0) m k).0 some)))
