-- Entries that are found by a number.
use Rattle.std.proofs.Common.{◌≡◌, ◌≢◌, ◌⊎◌, inl, inr, ℕ, ◌+◌, ◌-◌, ◌<◌, List, length, take, get_or, set, Contains, sym}
use Rattle.std.proofs.Common.{ap, ◌∙◌, arith, get_or-set_other, get_or-set_same, refl}
use Rattle.std.specs.Map.{keys_of}
use Rattle.std.proofs.lemmas.Bool.{cases_eq}
use Rattle.std.proofs.lemmas.List.{length-take-le, get_or-take, get_or_default}
use Rattle.std.proofs.lemmas.Map.Entries.{length-keys_of}
use Rattle.aig_parts.specs.declared.symbols.places.Place.{Place}
use Rattle.aig_parts.specs.SymbolPlaces.{Key}
use Rattle.aig_parts.specs.state.SymbolRanks.{Ranks, number_of, AreEntered}
use Rattle.aig_parts.proofs.TableLemmas.{nowhere, key_at}

-- the same numbers, with other places
abbrev pub with_places : Ranks → List ℕ → Ranks
with_places ranks places = record { starts = ranks.starts; words = ranks.words; before = ranks.before; places = places }

same_number : (ranks : Ranks) (places : List ℕ) (k : Key) → number_of (with_places ranks places) k ≡ number_of ranks k
unfolding number_of
same_number ranks places k = refl

-- one more entry, at a number that was free
module _ (ranks : Ranks) (es : List (Key × Place)) (i n : ℕ) (d : Key × Place) (inside : i < length es)
    (is : n ≡ number_of ranks (get_or es i d).0) (room : n < length ranks.places) (free : get_or ranks.places n 0 ≡ 0)
    (entered : AreEntered ranks (take i es)) where
  pub entered_more : AreEntered (with_places ranks (set ranks.places n (i + 1))) (take (i + 1) es)
  entered_more j e lt =
      let size = length-take-le i es (omega arith) in
      let more = length-take-le (i + 1) es (omega arith) in
      let below : j < i + 1 = omega arith in
      let key = ap (λ (x : Key × Place). x.0) (get_or-take (i + 1) es j e below) in
      let number = same_number ranks (set ranks.places n (i + 1)) (get_or (take (i + 1) es) j e).0
      ∙ ap (number_of ranks) key in
      let place : ℕ → ℕ = λ m. get_or (set ranks.places n (i + 1)) m 0 in
      ap place number ∙ elim (cases_eq j i) [
        | inl same ↦
            let here : number_of ranks (get_or es j e).0 ≡ n =
            ap (λ (m : ℕ). number_of ranks (get_or es m e).0) same
            ∙ ap (λ (x : Key × Place). number_of ranks x.0) (get_or_default es i e d inside) ∙ sym is in
            ap place here ∙ get_or-set_same ranks.places n (i + 1) 0 room ∙ ap (λ (m : ℕ). m + 1) (sym same)
        | inr other ↦
            let old : get_or ranks.places (number_of ranks (get_or es j e).0) 0 ≡ j + 1 =
            ap (λ (x : Key × Place). get_or ranks.places (number_of ranks x.0) 0) (sym (get_or-take i es j e (omega arith)))
            ∙ entered j e (omega arith) in
            let apart : number_of ranks (get_or es j e).0 ≢ n = λ m.
            let clash : j + 1 ≡ 0 = sym old ∙ ap (λ (x : ℕ). get_or ranks.places x 0) m ∙ free in omega arith in
            get_or-set_other ranks.places n (number_of ranks (get_or es j e).0) (i + 1) 0 apart ∙ old
      ]

-- an entry is not in the list if the place of its number is none of the list, or that of another
module _ (ranks : Ranks) (es : List (Key × Place)) (k : Key) (at : ℕ) (entered : AreEntered ranks es)
    (is : at ≡ get_or ranks.places (number_of ranks k) 0) where
  place_there : (j : ℕ) (d : Key × Place) → j < length es → get_or (keys_of es) j k ≡ k → at ≡ j + 1
  place_there j d inside same =
      let here : (get_or es j d).0 ≡ k = sym (key_at es j d k inside) ∙ same in
      is ∙ ap (λ (x : Key). get_or ranks.places (number_of ranks x) 0) (sym here) ∙ entered j d inside

  pub absent_without_place : ((at ≡ 0) ⊎ (length es < at)) → Contains (keys_of es) k → ⊥
  absent_without_place out (j, lt, same) =
      let inside : j < length es = omega (arith, length-keys_of es) in
      let there = place_there j nowhere inside same in
      elim out [ inl none ↦ omega (arith, there, none) | inr over ↦ omega (arith, there, over) ]

  pub absent_but_place : (d : Key × Place) → (get_or es (at - 1) d).0 ≢ k → Contains (keys_of es) k → ⊥
  absent_but_place d differs (j, lt, same) =
      let inside : j < length es = omega (arith, length-keys_of es) in
      let there = place_there j d inside same in
      let back : at - 1 ≡ j = omega (arith, there) in
      differs (ap (λ (n : ℕ). (get_or es n d).0) back ∙ sym (key_at es j d k inside) ∙ same)
