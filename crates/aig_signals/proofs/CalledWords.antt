-- Tables of words X[n], while more of them are found.
use Rattle.std.proofs.Common.{◌≡◌, inl, inr, ℕ, ◌+◌, ◌<◌, ◌≤◌, Bool, true, false, List, [], ◌∷◌, ◌++◌, ◌-◌, length, get_or, drop}
use Rattle.std.proofs.Common.{Option, None, Some, IfSome, refl, sym, ap, subst, ◌∙◌, append_assoc, append-nil}
use Rattle.std.specs.Prelude.{if◌then◌else◌, option_map, filter_map, flat_map, is_some}
use Rattle.std.specs.List.{range_with_len}
use Rattle.std.specs.Map.{lookup}
use Rattle.std.specs.Str.{bytes_eq}
use Rattle.std.proofs.lemmas.Bool.{cases_Bool}
use Rattle.std.proofs.lemmas.List.{drop_more, drop_all}
use Rattle.std.proofs.lemmas.List.Elements.{filter_map-append}
use Rattle.std.proofs.lemmas.Slice.Eq.{bytes_eq-Decides}
use Rattle.aig_parts.specs.declared.raw.Raw.{Raw}
use Rattle.aig_parts.specs.declared.symbols.Kind.{Kind}
use Rattle.aig_names.specs.Vectors.{bit_of}
use Rattle.aig_signals.specs.Bits.{all_bits, bits_named, index_in, word_bit, word_bits}
use Rattle.aig_signals.specs.declared.bits.WordBit.{WordBit}
use Rattle.aig_signals.specs.state.Called.{AreByWords, AreWords, emptied, with_words}
use Rattle.aig_signals.proofs.BitLemmas.{named_is, no_numbers, numbers_step}
use Rattle.aig_signals.proofs.CalledLemmas.{bytes_turned, there}

same_bytes : (xs ys : List ℕ) → bytes_eq xs ys ≡ true → xs ≡ ys
same_bytes xs ys h = (bytes_eq-Decides xs ys).0 h

with_none : (o : Option (List WordBit)) → with_words [] o ≡ o
with_none None = refl
with_none (Some was) = ap Some (append-nil was)

with_both : (a b : List WordBit) (o : Option (List WordBit)) → with_words b (with_words a o) ≡ with_words (a ++ b) o
with_both a b None = refl
with_both a b (Some was) = ap Some (append_assoc was a b)

-- one step, where some are left after it
pub with_step : (now rest more all : List WordBit) (old new first : Option (List WordBit)) → rest ≡ now ++ more
    → new ≡ with_words now old → with_words rest old ≡ with_words all first → with_words more new ≡ with_words all first
with_step now rest more all old new first split is h =
    ap (with_words more) is ∙ with_both now more old ∙ ap (λ (m : List WordBit). with_words m old) (sym split) ∙ h

-- none is left
pub with_end : (rest all : List WordBit) (old first : Option (List WordBit)) → rest ≡ []
    → with_words rest old ≡ with_words all first → old ≡ with_words all first
with_end rest all old first none h =
    sym (with_none old) ∙ ap (λ (m : List WordBit). with_words m old) (sym none) ∙ h

-- no word
pub with_nothing : (now : List WordBit) (o : Option (List WordBit)) → now ≡ [] → o ≡ with_words now o
with_nothing now o none = sym (ap (λ (m : List WordBit). with_words m o) none ∙ with_none o)

-- all words that were found
pub with_all : (more : List WordBit) (old new : Option (List WordBit)) → IfSome old (λ b. b ≡ []) → new ≡ with_words more old
    → IfSome new (λ b. b ≡ more)
with_all more None new h is = subst (λ (o : Option (List WordBit)). IfSome o (λ b. b ≡ more)) (sym is) tt
with_all more (Some was) new h is =
    subst (λ (o : Option (List WordBit)). IfSome o (λ b. b ≡ more)) (sym is) (ap (λ (b : List WordBit). b ++ more) h)

gone : (o : Option (List WordBit)) → is_some o ≡ false → o ≡ None
gone None h = refl
gone (Some was) h = absurd (cc h)

emptied_there : (o : Option (List WordBit)) → is_some o ≡ true → Some [] ≡ emptied true o
emptied_there None h = absurd (cc h)
emptied_there (Some was) h = refl

module _ (table : List ℕ → Option (List WordBit)) (name x : List ℕ) where
  at_name : (P : Option (List WordBit) → Type 0) → bytes_eq name x ≡ true → P (table name) → P (table x)
  at_name P holds = subst (λ (y : List ℕ). P (table y)) (same_bytes name x holds)

  -- X is not in the table
  pub taken_none : is_some (table name) ≡ false → table x ≡ emptied (bytes_eq name x) (table x)
  taken_none h = elim (cases_Bool (bytes_eq name x)) [
    | inl holds ↦
        let none : table x ≡ None = gone (table x) (at_name (λ o. is_some o ≡ false) holds h) in
        none ∙ (λ i. emptied (sym holds i) (sym none i))
    | inr fails ↦ ap (λ (b : Bool). emptied b (table x)) (sym fails)
  ]

  -- it is
  pub taken_some : (new : Option (List WordBit)) → is_some (table name) ≡ true
      → new ≡ (if bytes_eq x name then Some [] else table x) → new ≡ emptied (bytes_eq name x) (table x)
  taken_some new h put = elim (cases_Bool (bytes_eq name x)) [
    | inl holds ↦
        put ∙ ap (λ (b : Bool). if b then Some [] else table x) (bytes_turned x name ∙ holds)
        ∙ emptied_there (table x) (at_name (λ o. is_some o ≡ true) holds h)
        ∙ ap (λ (b : Bool). emptied b (table x)) (sym holds)
    | inr fails ↦
        put ∙ ap (λ (b : Bool). if b then Some [] else table x) (bytes_turned x name ∙ fails)
        ∙ ap (λ (b : Bool). emptied b (table x)) (sym fails)
  ]

  -- a bit of an X that is not in the table
  pub bit_none : (bit : WordBit) (mid : Option (List WordBit)) → None ≡ table name → mid ≡ emptied (bytes_eq name x) (table x)
      → mid ≡ with_words (if bytes_eq name x then bit ∷ [] else []) (table x)
  bit_none bit mid none is = elim (cases_Bool (bytes_eq name x)) [
    | inl holds ↦
        let e : table x ≡ None = at_name (λ o. o ≡ None) holds (sym none) in
        is ∙ (λ i. emptied (holds i) (e i)) ∙ (λ i. with_words (if sym holds i then bit ∷ [] else []) (sym e i))
    | inr fails ↦
        is ∙ ap (λ (b : Bool). emptied b (table x)) fails ∙ sym (with_none (table x))
        ∙ ap (λ (b : Bool). with_words (if b then bit ∷ [] else []) (table x)) (sym fails)
  ]

  -- a bit of one that is
  pub bit_put : (bit : WordBit) (bits more : List WordBit) (mid new : Option (List WordBit)) → Some bits ≡ table name
      → more ≡ bits ++ bit ∷ [] → mid ≡ emptied (bytes_eq name x) (table x) → new ≡ (if bytes_eq x name then Some more else mid)
      → new ≡ with_words (if bytes_eq name x then bit ∷ [] else []) (table x)
  bit_put bit bits more mid new some pushed is put = elim (cases_Bool (bytes_eq name x)) [
    | inl holds ↦
        let e : table x ≡ Some bits = at_name (λ o. o ≡ Some bits) holds (sym some) in
        put ∙ ap (λ (b : Bool). if b then Some more else mid) (bytes_turned x name ∙ holds) ∙ ap Some pushed
        ∙ (λ i. with_words (if sym holds i then bit ∷ [] else []) (sym e i))
    | inr fails ↦
        put ∙ ap (λ (b : Bool). if b then Some more else mid) (bytes_turned x name ∙ fails)
        ∙ is ∙ ap (λ (b : Bool). emptied b (table x)) fails ∙ sym (with_none (table x))
        ∙ ap (λ (b : Bool). with_words (if b then bit ∷ [] else []) (table x)) (sym fails)
  ]

one_is : {X Y : Type 0} (h : X → Option Y) (x : X) (y : Y) → h x ≡ Some y → filter_map h (x ∷ []) ≡ y ∷ []
one_is h x y is = rw is refl

none_is : {X Y : Type 0} (h : X → Option Y) (x : X) → h x ≡ None → filter_map h (x ∷ []) ≡ []
none_is h x is = rw is refl

-- a word that is X[n]
pub word_is : (x vector word : List ℕ) (n literal : ℕ) → Some (vector, n) ≡ bit_of word
    → (if bytes_eq vector x then record { index = n; literal = literal } ∷ [] else []) ≡ filter_map (word_bit x literal) (word ∷ [])
word_is x vector word n literal is =
    let bit : WordBit = record { index = n; literal = literal } in
    let found : word_bit x literal word ≡ option_map (λ m. record { index = m; literal = literal }) (index_in x (Some (vector, n))) =
    ap (λ (o : Option (List ℕ × ℕ)). option_map (λ m. record { index = m; literal = literal }) (index_in x o)) (sym is) in
    elim (cases_Bool (bytes_eq vector x)) [
      | inl holds ↦
          ap (λ (b : Bool). if b then bit ∷ [] else []) holds
          ∙ sym (one_is (word_bit x literal) word bit (found
          ∙ ap (λ (b : Bool). option_map (λ m. record { index = m; literal = literal }) (if b then Some n else None)) holds))
      | inr fails ↦
          ap (λ (b : Bool). if b then bit ∷ [] else []) fails
          ∙ sym (none_is (word_bit x literal) word (found
          ∙ ap (λ (b : Bool). option_map (λ m. record { index = m; literal = literal }) (if b then Some n else None)) fails))
    ]

-- and one that is not
pub word_none : (x word : List ℕ) (literal : ℕ) → None ≡ bit_of word → filter_map (word_bit x literal) (word ∷ []) ≡ []
word_none x word literal is =
    none_is (word_bit x literal) word
    (ap (λ (o : Option (List ℕ × ℕ)). option_map (λ m. record { index = m; literal = literal }) (index_in x o)) (sym is))

-- one word more
pub words_apart : {X Y : Type 0} (h : X → Option Y) (xs ys : List X) (x : X) → xs ≡ x ∷ ys
    → filter_map h xs ≡ filter_map h (x ∷ []) ++ filter_map h ys
words_apart h xs ys x is = ap (filter_map h) is ∙ filter_map-append h (x ∷ []) ys

-- one entry more of a section
pub entries_apart : (f : ℕ → List WordBit) (k n : ℕ) → k < n
    → flat_map f (range_with_len k (n - k)) ≡ f k ++ flat_map f (range_with_len (k + 1) (n - (k + 1)))
entries_apart f k n lt = ap (flat_map f) (numbers_step k n lt)

pub no_entries : (f : ℕ → List WordBit) (k n : ℕ) → n ≤ k → flat_map f (range_with_len k (n - k)) ≡ []
no_entries f k n le = ap (flat_map f) (no_numbers k n le)

-- one section more
pub sections_apart : (f : Kind → List WordBit) (kinds : List Kind) (i : ℕ) (d : Kind) → i < length kinds
    → flat_map f (drop i kinds) ≡ f (get_or kinds i d) ++ flat_map f (drop (i + 1) kinds)
sections_apart f kinds i d lt = ap (flat_map f) (drop_more kinds i d lt)

pub no_sections : (f : Kind → List WordBit) (kinds : List Kind) (i : ℕ) → length kinds ≤ i → flat_map f (drop i kinds) ≡ []
no_sections f kinds i le = ap (flat_map f) (drop_all i kinds le)

-- what a text is that of by its words, once more is kept
pub kept_one : (raw : Raw) (table : List ℕ → Option (List WordBit)) (name : List ℕ) (bits shown : List WordBit)
    (found : Option (List ℕ)) (old new : List ℕ → Option (Option (List ℕ))) → AreWords raw table → table name ≡ Some bits
    → shown ≡ bits → found ≡ all_bits shown → AreByWords raw old
    → ((x : List ℕ) → new x ≡ (if bytes_eq x name then Some found else old x)) → AreByWords raw new
kept_one raw table name bits shown found old new known here same is before put x =
    let words : bits ≡ word_bits raw name = there (λ b. b ≡ word_bits raw name) (table name) bits here (known name) in
    let by : found ≡ bits_named raw name = is ∙ named_is raw name shown (same ∙ words) in
    elim (cases_Bool (bytes_eq x name)) [
      | inl holds ↦
          let e : x ≡ name = same_bytes x name holds in
          let there : new x ≡ Some found = put x ∙ ap (λ (b : Bool). if b then Some found else old x) holds in
          subst (λ (o : Option (Option (List ℕ))). IfSome o (λ f. f ≡ bits_named raw x)) (sym there)
          (by ∙ ap (bits_named raw) (sym e))
      | inr fails ↦
          let there : new x ≡ old x = put x ∙ ap (λ (b : Bool). if b then Some found else old x) fails in
          subst (λ (o : Option (Option (List ℕ))). IfSome o (λ f. f ≡ bits_named raw x)) (sym there) (before x)
    ]

-- no text
pub kept_none : {K : Type 0} (P : List ℕ → Option (List ℕ) → Type 0) (test : List ℕ → K → Bool) (entries : List (K × Option (List ℕ)))
    → entries ≡ [] → (x : List ℕ) → IfSome (lookup (test x) entries) (P x)
kept_none P test entries none x = subst (λ es. IfSome (lookup (test x) es) (P x)) (sym none) tt
