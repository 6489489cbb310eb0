-- Names and their pieces: all bytes are visible, no piece is empty, and none begins with `$`.
use Rattle.std.proofs.Common.{◌≡◌, ◌≢◌, ◌⊎◌, ℕ, suc, ◌+◌, ◌-◌, ◌<◌, ◌≤◌, Bool, true, false, ◌&&◌, ◌||◌}
use Rattle.std.proofs.Common.{cond, List, [], ◌∷◌, ◌++◌, length, slice_get, Some, All, Contains, refl, sym, ap, ◌∙◌}
use Rattle.std.proofs.Common.{subst, arith, inl, inr}
use Rattle.std.specs.Prelude.{if◌then◌else◌, ◌==◌, nat_lt}
use Rattle.std.specs.List.{onto_first, list_any}
use Rattle.std.specs.Fmt.{decimal}
use Rattle.std.proofs.lemmas.Bool.{cases_lt, lt-ltb, ltb-true, eqb-true, eqb-false, eq-eqb, and_from, or_parts}
use Rattle.std.proofs.lemmas.Bool.{false≢true}
use Rattle.std.proofs.lemmas.List.{take_more, take_all}
use Rattle.std.proofs.lemmas.List.Elements.{All-nil, All-cons, All-head, All-tail, All-map, All-weaker, All-contains}
use Rattle.std.proofs.lemmas.List.Elements.{filter_passes}
use Rattle.std.proofs.lemmas.List.Splits.{length-slice_split}
use Rattle.aig_bytes.proofs.Decimals as decimals
use Rattle.aig_parts.specs.declared.symbols.Kind.{Kind}
use Rattle.aig_parts.specs.declared.symbols.Kind.TheVariants.{Input, Latch, Output, Bad, Constraint, Justice, Fairness}
use Rattle.aig_parts.specs.SymbolPlaces.{Key}
use Rattle.aig_names.proofs.Codes.{IsVisible}
use Rattle.aig_parts.specs.Letters.{letter}
use Rattle.aig_names.specs.Names.{symbol_of, cut_at, words, name_byte, as_name_after, as_name, names_by, names_of}
use Rattle.aig_names.specs.Paths.{path_of, scopes_of, leaf_of}

abbrev pub NoDollar : List ℕ → Type 0
NoDollar piece = slice_get piece 0 ≢ Some 36

-- ---- numbers
abbrev IsDigit : ℕ → Type 0
IsDigit b = (48 ≤ b) × (b ≤ 122)

digit_decimal : (n : ℕ) → All IsDigit (decimal n)
digit_decimal n =
    All-weaker decimals.IsDigit IsDigit (λ b h. (h.0, omega (arith, h.1))) (decimal n) (decimals.digits-decimal n)

digit_letter : (kind : Kind) → IsDigit (letter kind)
digit_letter Input = (omega arith, omega arith)
digit_letter Latch = (omega arith, omega arith)
digit_letter Output = (omega arith, omega arith)
digit_letter Bad = (omega arith, omega arith)
digit_letter Constraint = (omega arith, omega arith)
digit_letter Justice = (omega arith, omega arith)
digit_letter Fairness = (omega arith, omega arith)

-- ---- bytes of names
-- the test by which a byte becomes `_`
abbrev is_hidden : ℕ → ℕ → Bool
is_hidden before b = nat_lt b 33 || (nat_lt 126 b || (b == 58 || (before == 46 && b == 36)))

abbrev AsShown : ℕ → ℕ → ℕ → Type 0
AsShown before b s = (s ≡ 95) ⊎ ((s ≡ b) × (33 ≤ b) × (b ≤ 126) × (before ≡ 46 → b ≢ 36))

shown_cases : (before b : ℕ) (t : Bool) → is_hidden before b ≡ t → AsShown before b (if t then 95 else b)
shown_cases before b true e = inl refl
shown_cases before b false e =
    let low = or_parts (nat_lt b 33) (nat_lt 126 b || (b == 58 || (before == 46 && b == 36))) e in
    let high = or_parts (nat_lt 126 b) (b == 58 || (before == 46 && b == 36)) low.1 in
    let colon = or_parts (b == 58) (before == 46 && b == 36) high.1 in
    inr (refl, ge (cases_lt b 33) low.0, le (cases_lt 126 b) high.0, λ p q. no colon.1 p q)
  where
    ge : (b < 33) ⊎ (33 ≤ b) → nat_lt b 33 ≡ false → 33 ≤ b
    ge (inl lt) f = absurd (false≢true (sym f ∙ lt-ltb b 33 lt))
    ge (inr h) f = h

    le : (126 < b) ⊎ (b ≤ 126) → nat_lt 126 b ≡ false → b ≤ 126
    le (inl lt) f = absurd (false≢true (sym f ∙ lt-ltb 126 b lt))
    le (inr h) f = h

    no : (before == 46 && b == 36) ≡ false → before ≡ 46 → b ≡ 36 → ⊥
    no f p q = false≢true (sym f ∙ and_from (before == 46) (b == 36) (eq-eqb before 46 p) (eq-eqb b 36 q))

name_byte_is : (before b : ℕ) → AsShown before b (name_byte before b)
name_byte_is before b = shown_cases before b (is_hidden before b) refl

visible_as : (before b s : ℕ) → AsShown before b s → IsVisible s
visible_as before b s (inl e) = (omega arith, omega arith)
visible_as before b s (inr h) = (omega arith, omega arith)

visible_after : (before : ℕ) (bytes : List ℕ) → All IsVisible (as_name_after before bytes)
unfolding as_name_after
visible_after before [] = All-nil IsVisible
visible_after before (b ∷ bytes) =
    All-cons IsVisible (name_byte before b) (as_name_after b bytes)
    (visible_as before b (name_byte before b) (name_byte_is before b)) (visible_after b bytes)

length_after : (before : ℕ) (bytes : List ℕ) → length (as_name_after before bytes) ≡ length bytes
unfolding as_name_after
length_after before [] = refl
length_after before (b ∷ bytes) = ap suc (length_after b bytes)

-- ---- pieces of names
abbrev GoodPieces : ℕ → List (List ℕ) → Type 0
GoodPieces before [] = Unit {0}
GoodPieces before (piece ∷ more) = (before ≡ 46 → NoDollar piece) × All NoDollar more

no_dollar_nil : NoDollar []
no_dollar_nil e = cc

no_dollar_cons : (b : ℕ) (bytes : List ℕ) → b ≢ 36 → NoDollar (b ∷ bytes)
no_dollar_cons b bytes ne e = let is : b ≡ 36 = cc in ne is

all_good : (pieces : List (List ℕ)) → GoodPieces 46 pieces → All NoDollar pieces
all_good [] h = All-nil NoDollar
all_good (piece ∷ more) h = All-cons NoDollar piece more (h.0 refl) h.1

good_tail : (before : ℕ) (pieces : List (List ℕ)) (s : ℕ) → (before ≡ 46 → s ≢ 36) → (before' : ℕ)
    → GoodPieces before' pieces
    → GoodPieces before (onto_first s pieces)
good_tail before [] s ne before' h = (λ p. no_dollar_cons s [] (ne p), All-nil NoDollar)
good_tail before (piece ∷ more) s ne before' h = (λ p. no_dollar_cons s piece (ne p), h.1)

good_step : (before b s : ℕ) (pieces : List (List ℕ)) (t : Bool) → (s == 46) ≡ t → AsShown before b s
    → GoodPieces b pieces
    → GoodPieces before (cond t ([] ∷ pieces) (onto_first s pieces))
good_step before b s pieces true e (inl h) good = absurd (omega (arith, h, eqb-true s 46 e))
good_step before b s pieces true e (inr h) good =
    let dot : b ≡ 46 = omega (arith, h.0, eqb-true s 46 e) in
    (λ p. no_dollar_nil, all_good pieces (subst (λ x. GoodPieces x pieces) dot good))
good_step before b s pieces false e (inl h) good =
    good_tail before pieces s (λ p q. omega arith) b good
good_step before b s pieces false e (inr h) good =
    good_tail before pieces s (λ p q. h.3 p (sym h.0 ∙ q)) b good

good_pieces : (before : ℕ) (bytes : List ℕ) → GoodPieces before (cut_at 46 (as_name_after before bytes))
unfolding as_name_after
good_pieces before [] = (λ p. no_dollar_nil, All-nil NoDollar)
good_pieces before (b ∷ bytes) =
    good_step before b (name_byte before b) (cut_at 46 (as_name_after b bytes)) (name_byte before b == 46) refl
    (name_byte_is before b) (good_pieces b bytes)

good_front : (word : List ℕ) → NoDollar (as_name word)
unfolding as_name_after
good_front [] = no_dollar_nil
good_front (b ∷ bytes) = no_dollar_cons (name_byte 46 b) (as_name_after b bytes) (front (name_byte_is 46 b))
  where
    front : AsShown 46 b (name_byte 46 b) → name_byte 46 b ≢ 36
    front (inl h) q = omega (arith, h, q)
    front (inr h) q = h.3 refl (sym h.0 ∙ q)

-- ---- a fact of all bytes of a text, at its pieces
onto_all : (P : ℕ → Type 0) (b : ℕ) (pieces : List (List ℕ)) → P b → All (All P) pieces
    → All (All P) (onto_first b pieces)
onto_all P b [] p h = All-cons (All P) (b ∷ []) [] (All-cons P b [] p (All-nil P)) (All-nil (All P))
onto_all P b (piece ∷ more) p h =
    All-cons (All P) (b ∷ piece) more (All-cons P b piece p (All-head (All P) piece more h))
    (All-tail (All P) piece more h)

pub cut_all : (P : ℕ → Type 0) (c : ℕ) (text : List ℕ) → All P text → All (All P) (cut_at c text)
cut_all P c [] h = All-cons (All P) [] [] (All-nil P) (All-nil (All P))
cut_all P c (b ∷ text) h =
    let more : All (All P) (cut_at c text) = cut_all P c text (All-tail P b text h) in
    elim (b == c) as (λ t. All (All P) (cond t ([] ∷ cut_at c text) (onto_first b (cut_at c text)))) [
      | true ↦ All-cons (All P) [] (cut_at c text) (All-nil P) more
      | false ↦ onto_all P b (cut_at c text) (All-head P b text h) more
    ]

-- ---- the path of a name
-- what holds of a name, and of all its pieces where none is empty, holds of its path
path_all : (P : List ℕ → Type 0) (name : List ℕ) → P name → All P (cut_at 46 name) → All P (path_of name)
unfolding path_of
path_all P name whole pieces =
    elim (list_any (λ piece. length piece == 0) (cut_at 46 name))
    as (λ t. All P (if t then name ∷ [] else cut_at 46 name)) [
      | true ↦ All-cons P name [] whole (All-nil P)
      | false ↦ pieces
    ]

pub visible_path : (name : List ℕ) → All IsVisible name → All (All IsVisible) (path_of name)
visible_path name h = path_all (All IsVisible) name h (cut_all IsVisible 46 name h)

none_empty : (pieces : List (List ℕ)) → list_any (λ piece. length piece == 0) pieces ≡ false
    → All (λ piece. 0 < length piece) pieces
none_empty [] e = All-nil (λ piece. 0 < length piece)
none_empty (piece ∷ more) e =
    let parts = or_parts (length piece == 0) (list_any (λ piece. length piece == 0) more) e in
    let ne : length piece ≢ 0 = eqb-false (length piece) 0 parts.0 in
    All-cons (λ piece. 0 < length piece) piece more (omega arith) (none_empty more parts.1)

some_pieces : (name : List ℕ) (t : Bool) → list_any (λ piece. length piece == 0) (cut_at 46 name) ≡ t → 0 < length name
    → All (λ piece. 0 < length piece) (if t then name ∷ [] else cut_at 46 name)
some_pieces name true e h = All-cons (λ piece. 0 < length piece) name [] h (All-nil (λ piece. 0 < length piece))
some_pieces name false e h = none_empty (cut_at 46 name) e

pub some_path : (name : List ℕ) → 0 < length name → All (λ piece. 0 < length piece) (path_of name)
unfolding path_of
some_path name h = some_pieces name (list_any (λ piece. length piece == 0) (cut_at 46 name)) refl h

-- a path has a piece at least
pub path_some : (name : List ℕ) → 0 < length (path_of name)
unfolding path_of
path_some name =
    elim (list_any (λ piece. length piece == 0) (cut_at 46 name))
    as (λ t. 0 < length (if t then name ∷ [] else cut_at 46 name)) [
      | true ↦ omega arith
      | false ↦ omega (arith, length-slice_split (λ b. b == 46) name)
    ]

pub path_parts : (name : List ℕ) → scopes_of name ++ leaf_of name ∷ [] ≡ path_of name
path_parts name =
    let some = path_some name in
    let n : ℕ = length (path_of name) - 1 in
    sym (take_more (path_of name) n [] (omega arith)) ∙ take_all (n + 1) (path_of name) (omega arith)

-- ---- names
-- a name of a signal
pub record IsSignalName (name : List ℕ) : Type 0 where
  pub visible : All IsVisible name
  pub some : 0 < length name
  pub no_keyword : All NoDollar (path_of name)

digits_no_dollar : (piece : List ℕ) → All IsDigit piece → NoDollar piece
digits_no_dollar [] h = no_dollar_nil
digits_no_dollar (b ∷ piece) h =
    let digit = All-head IsDigit b piece h in no_dollar_cons b piece (λ e. omega arith)

name_by_letter : (kind : Kind) (p : ℕ) → IsSignalName (letter kind ∷ decimal p)
name_by_letter kind p =
    let name : List ℕ = letter kind ∷ decimal p in
    let digits : All IsDigit name = All-cons IsDigit (letter kind) (decimal p) (digit_letter kind) (digit_decimal p) in
    record {
      visible = All-weaker IsDigit IsVisible (λ x d. (omega arith, omega arith)) name digits;
      some = omega arith;
      no_keyword = path_all NoDollar name (digits_no_dollar name digits)
          (All-weaker (All IsDigit) NoDollar digits_no_dollar (cut_at 46 name) (cut_all IsDigit 46 name digits));
    }

name_by_word : (word : List ℕ) → nat_lt 0 (length word) ≡ true → IsSignalName (as_name word)
name_by_word word h = record {
  visible = visible_after 46 word;
  some = omega (arith, length_after 46 word, ltb-true 0 (length word) h);
  no_keyword = path_all NoDollar (as_name word) (good_front word)
      (all_good (cut_at 46 (as_name word)) (good_pieces 46 word));
}

names_by_all : (kind : Kind) (p : ℕ) (ws : List (List ℕ)) → All (λ word. nat_lt 0 (length word) ≡ true) ws
    → All IsSignalName (names_by kind p ws)
names_by_all kind p [] h = All-cons IsSignalName (letter kind ∷ decimal p) [] (name_by_letter kind p) (All-nil IsSignalName)
names_by_all kind p (word ∷ more) h =
    All-map IsSignalName as_name (word ∷ more)
    (All-weaker (λ word. nat_lt 0 (length word) ≡ true) (λ word. IsSignalName (as_name word)) name_by_word (word ∷ more) h)

words_some : (symbol : List ℕ) → All (λ word. nat_lt 0 (length word) ≡ true) (words symbol)
unfolding words
words_some symbol = filter_passes (λ word. nat_lt 0 (length word)) (cut_at 32 symbol)

pub all_names : (symbols : List (Key × List ℕ)) (kind : Kind) (p : ℕ) → All IsSignalName (names_of symbols kind p)
all_names symbols kind p =
    names_by_all kind p (words (symbol_of symbols kind p)) (words_some (symbol_of symbols kind p))

-- ---- pieces of names
pub visible_piece : (symbols : List (Key × List ℕ)) (kind : Kind) (p : ℕ) (name piece : List ℕ)
    → Contains (names_of symbols kind p) name → Contains (path_of name) piece → All IsVisible piece
visible_piece symbols kind p name piece in_names in_path =
    let is = All-contains IsSignalName (names_of symbols kind p) name (all_names symbols kind p) in_names in
    All-contains (All IsVisible) (path_of name) piece (visible_path name is.visible) in_path

pub some_piece : (symbols : List (Key × List ℕ)) (kind : Kind) (p : ℕ) (name piece : List ℕ)
    → Contains (names_of symbols kind p) name → Contains (path_of name) piece → 0 < length piece
some_piece symbols kind p name piece in_names in_path =
    let is = All-contains IsSignalName (names_of symbols kind p) name (all_names symbols kind p) in_names in
    All-contains (λ piece. 0 < length piece) (path_of name) piece (some_path name is.some) in_path

pub no_keyword : (symbols : List (Key × List ℕ)) (kind : Kind) (p : ℕ) (name piece : List ℕ)
    → Contains (names_of symbols kind p) name → Contains (path_of name) piece → slice_get piece 0 ≢ Some 36
no_keyword symbols kind p name piece in_names in_path =
    let is = All-contains IsSignalName (names_of symbols kind p) name (all_names symbols kind p) in_names in
    All-contains NoDollar (path_of name) piece is.no_keyword in_path

-- ---- numbers
pub visible_decimal : (n : ℕ) → All IsVisible (decimal n)
visible_decimal n = λ k d lt. let h = digit_decimal n k d lt in (omega (arith, h.0), omega (arith, h.1))
