-- What a symbol names, by its letter and its position.
use Rattle.std.proofs.Common.{◌≡◌, ℕ, Bool, true, false, ◌==◌, eqb, eq-eqb, List}
use Rattle.std.proofs.Common.{refl, sym, ap, Contains}
use Rattle.std.proofs.lemmas.Bool.{eqb-true, false_from_ne_true, and_parts}
use Rattle.std.proofs.lemmas.Map.Views.{list_any-from_Contains, Contains-from_any}
use Rattle.std.specs.Cmp.{IsEquivalence}
use Rattle.std.specs.Map.{keys_of}
use Rattle.aig_parts.specs.declared.symbols.Kind.{Kind}
use Rattle.aig_parts.specs.Letters.{letter}
use Rattle.aig_parts.proofs.LetterLemmas.{same_kind}
use Rattle.aig_format.specs.Spelling.{Entry}
use Rattle.aig_format.specs.state.ReadingNames.{same_key, is_named}

pub same_is : (a b : Kind × ℕ) → same_key a b ≡ true → a ≡ b
same_is a b h =
    let p = and_parts (letter a.0 == letter b.0) (a.1 == b.1) h in
    let k : a.0 ≡ b.0 = same_kind a.0 b.0 (eqb-true (letter a.0) (letter b.0) p.0) in
    let n : a.1 ≡ b.1 = eqb-true a.1 b.1 p.1 in
    (λ i. (k i, n i))

pub is_same : (a b : Kind × ℕ) → a ≡ b → same_key a b ≡ true
is_same a b e =
    let k : eqb (letter a.0) (letter b.0) ≡ true =
    eq-eqb (letter a.0) (letter b.0) (ap (λ (x : Kind × ℕ). letter x.0) e) in
    let n : eqb a.1 b.1 ≡ true = eq-eqb a.1 b.1 (ap (λ (x : Kind × ℕ). x.1) e) in
    rw (k, n) refl

both_ways : (a b : Bool) → (a ≡ true → b ≡ true) → (b ≡ true → a ≡ true) → a ≡ b
both_ways true b f g = sym (f refl)
both_ways false true f g = g refl
both_ways false false f g = refl

same_laws : IsEquivalence same_key
same_laws = record {
  refl = λ x. is_same x x refl;
  symm = λ x y. both_ways (same_key x y) (same_key y x) (λ h. is_same y x (sym (same_is x y h)))
      (λ h. is_same x y (sym (same_is y x h)));
  congr = λ x y z h. ap (λ (w : Kind × ℕ). same_key w z) (same_is x y h);
}

pub named_is : (kind : Kind) (position : ℕ) (named : List Entry) → is_named kind position named ≡ true
    → Contains (keys_of named) (kind, position)
named_is kind position named h = Contains-from_any same_is (kind, position) (keys_of named) h

pub is_named_from : (kind : Kind) (position : ℕ) (named : List Entry) → Contains (keys_of named) (kind, position)
    → is_named kind position named ≡ true
is_named_from kind position named h = list_any-from_Contains same_laws (kind, position) (keys_of named) h

pub not_named_from : (kind : Kind) (position : ℕ) (named : List Entry)
    → (Contains (keys_of named) (kind, position) → ⊥) → is_named kind position named ≡ false
not_named_from kind position named h = false_from_ne_true (is_named kind position named) (λ e. h (named_is kind position named e))
