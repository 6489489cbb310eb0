-- Words as a terminal shows them.
use Rattle.std.proofs.Common.{◌≡◌, ℕ, ◌+◌, ◌<◌, Bool, true, false, List, [], ◌∷◌, ◌++◌, length, get_or, take, map, refl}
use Rattle.std.proofs.Common.{sym, ap, ◌∙◌, append_assoc}
use Rattle.std.specs.List.{list_any}
use Rattle.std.specs.Str.{bytes_eq}
use Rattle.std.proofs.lemmas.List.{map-append, take_more}
use Rattle.aig_parts.specs.declared.raw.Raw.{Raw}
use Rattle.aig_parts.specs.declared.symbols.Kind.{Kind}
use Rattle.aig_names.specs.Names.{symbol_of, words}
use Rattle.aig_signals.specs.Names.{readable, readable_byte, position_name, first_name, further_names}

-- one byte more
pub readable_more : (old now new word : List ℕ) (i b : ℕ) → i < length word → b ≡ readable_byte (get_or word i 0)
    → new ≡ now ++ b ∷ [] → now ≡ old ++ readable (take i word) → new ≡ old ++ readable (take (i + 1) word)
readable_more old now new word i b lt is pushed h =
    pushed ∙ (λ j. h j ++ is j ∷ [])
    ∙ append_assoc old (readable (take i word)) (readable_byte (get_or word i 0) ∷ [])
    ∙ ap (λ (xs : List ℕ). old ++ xs)
    (sym (ap readable (take_more word i 0 lt) ∙ map-append readable_byte (take i word) (get_or word i 0 ∷ [])))

module _ (raw : Raw) (kind : Kind) (p : ℕ) where
  pub first_some : (symbol word rest : List ℕ) → symbol ≡ symbol_of raw.symbols kind p → words symbol ≡ word ∷ words rest
      → readable word ≡ first_name raw kind p
  unfolding first_name
  first_some symbol word rest is h =
      let split : words (symbol_of raw.symbols kind p) ≡ word ∷ words rest = sym (ap words is) ∙ h in
      rw split refl

  pub first_none : (symbol : List ℕ) → symbol ≡ symbol_of raw.symbols kind p → words symbol ≡ [] → position_name kind p ≡ first_name raw kind p
  unfolding first_name
  first_none symbol is h =
      let split : words (symbol_of raw.symbols kind p) ≡ [] = sym (ap words is) ∙ h in
      rw split refl

  pub further_some : (symbol word rest : List ℕ) → symbol ≡ symbol_of raw.symbols kind p → words symbol ≡ word ∷ words rest
      → map readable (words rest) ≡ further_names raw kind p
  unfolding further_names
  further_some symbol word rest is h =
      let split : words (symbol_of raw.symbols kind p) ≡ word ∷ words rest = sym (ap words is) ∙ h in
      rw split refl

  pub further_none : (symbol : List ℕ) → symbol ≡ symbol_of raw.symbols kind p → words symbol ≡ [] → [] ≡ further_names raw kind p
  unfolding further_names
  further_none symbol is h =
      let split : words (symbol_of raw.symbols kind p) ≡ [] = sym (ap words is) ∙ h in
      rw split refl

module _ (name : List ℕ) where
  abbrev pub any_is : List (List ℕ) → Bool
  any_is ws = list_any (λ word. bytes_eq word name) (map readable ws)

  pub any_here : (text word rest : List ℕ) → words text ≡ word ∷ words rest → bytes_eq (readable word) name ≡ true → any_is (words text) ≡ true
  any_here text word rest h holds = ap any_is h ∙ (rw holds refl)

  pub any_later : (text word rest : List ℕ) → words text ≡ word ∷ words rest → bytes_eq (readable word) name ≡ false
      → any_is (words text) ≡ any_is (words rest)
  any_later text word rest h fails = ap any_is h ∙ (rw fails refl)

  pub any_none : (text : List ℕ) → words text ≡ [] → any_is (words text) ≡ false
  any_none text h = ap any_is h
