-- The words of texts that are put together with spaces.
use Rattle.std.proofs.Common.{◌≡◌, ℕ, ◌<◌, Bool, true, false, List, [], ◌∷◌, ◌++◌, length, flat_map, cond, refl, sym}
use Rattle.std.proofs.Common.{ap, ◌∙◌, arith, append_assoc}
use Rattle.std.specs.Prelude.{◌==◌, nat_lt}
use Rattle.std.specs.List.{filter, join_with_byte, onto_first, slice_split}
use Rattle.std.proofs.lemmas.Bool.{lt-ltb}
use Rattle.std.proofs.lemmas.List.{append-nil}
use Rattle.std.proofs.lemmas.List.Elements.{All-head, All-tail, filter-append}
use Rattle.std.proofs.lemmas.List.Splits.{join_with_byte-slice_split, length-slice_split, slice_split-cons_no}
use Rattle.std.proofs.lemmas.List.Splits.{slice_split-cons_yes}
use Rattle.aig_names.specs.Names.{words}
use Rattle.aig_prompt.specs.Folded.{AddsWord, Folds, IsSpaces, is_space, text_words}

onto_joined : (x : ℕ) (ps qs : List (List ℕ)) → 0 < length ps → onto_first x (ps ++ qs) ≡ onto_first x ps ++ qs
onto_joined x [] qs some = absurd (omega (arith, some))
onto_joined x (p ∷ ps) qs some = refl

split_step : (x : ℕ) (a b c : List ℕ) (t : Bool) → is_space x ≡ t → slice_split is_space c ≡ slice_split is_space a ++ slice_split is_space b
    → slice_split is_space (x ∷ c) ≡ slice_split is_space (x ∷ a) ++ slice_split is_space b
split_step x a b c true e h =
    slice_split-cons_yes is_space x c e ∙ ap (λ (ps : List (List ℕ)). [] ∷ ps) h
    ∙ ap (λ (ps : List (List ℕ)). ps ++ slice_split is_space b) (sym (slice_split-cons_yes is_space x a e))
split_step x a b c false e h =
    slice_split-cons_no is_space x c e ∙ ap (onto_first x) h
    ∙ onto_joined x (slice_split is_space a) (slice_split is_space b) (omega (arith, length-slice_split is_space a))
    ∙ ap (λ (ps : List (List ℕ)). ps ++ slice_split is_space b) (sym (slice_split-cons_no is_space x a e))

split_joined : (a : List ℕ) (g : ℕ) (b : List ℕ) → is_space g ≡ true
    → slice_split is_space (a ++ g ∷ b) ≡ slice_split is_space a ++ slice_split is_space b
split_joined [] g b e = slice_split-cons_yes is_space g b e
split_joined (x ∷ a) g b e = split_step x a b (a ++ g ∷ b) (is_space x) refl (split_joined a g b e)

-- a space parts words
pub words_joined : (a : List ℕ) (g : ℕ) (b : List ℕ) → is_space g ≡ true → text_words (a ++ g ∷ b) ≡ text_words a ++ text_words b
words_joined a g b e =
    ap (filter (λ (word : List ℕ). nat_lt 0 (length word))) (split_joined a g b e)
    ∙ filter-append (λ (word : List ℕ). nat_lt 0 (length word)) (slice_split is_space a) (slice_split is_space b)

after_spaces : (spaces word : List ℕ) → IsSpaces spaces → text_words (spaces ++ word) ≡ text_words word
after_spaces [] word h = refl
after_spaces (g ∷ spaces) word h =
    words_joined [] g (spaces ++ word) (All-head (λ b. is_space b ≡ true) g spaces h)
    ∙ after_spaces spaces word (All-tail (λ b. is_space b ≡ true) g spaces h)

words_more : (folded spaces word : List ℕ) → IsSpaces spaces → (spaces ≡ [] → folded ≡ [])
    → text_words (folded ++ (spaces ++ word)) ≡ text_words folded ++ text_words word
words_more folded [] word h none =
    ap (λ (f : List ℕ). text_words (f ++ word)) (none refl) ∙ ap (λ (f : List ℕ). text_words f ++ text_words word) (sym (none refl))
words_more folded (g ∷ spaces) word h none =
    words_joined folded g (spaces ++ word) (All-head (λ b. is_space b ≡ true) g spaces h)
    ∙ ap (λ (ws : List (List ℕ)). text_words folded ++ ws)
    (after_spaces spaces word (All-tail (λ b. is_space b ≡ true) g spaces h))

joined_words : (parts : List (List ℕ)) → text_words (join_with_byte 32 parts) ≡ flat_map text_words parts
joined_words [] = refl
joined_words (p ∷ []) = sym (append-nil (text_words p))
joined_words (p ∷ q ∷ parts) =
    words_joined p 32 (join_with_byte 32 (q ∷ parts)) refl
    ∙ ap (λ (ws : List (List ℕ)). text_words p ++ ws) (joined_words (q ∷ parts))

-- the words of a line are those of its pieces
line_words : (line : List ℕ) → flat_map text_words (slice_split (λ b. b == 32) line) ≡ text_words line
line_words line = sym (joined_words (slice_split (λ b. b == 32) line)) ∙ ap text_words (join_with_byte-slice_split 32 line)

kept_piece : (keep : Bool) (piece : List ℕ) (pieces : List (List ℕ)) → keep ≡ true
    → flat_map text_words (cond keep (piece ∷ pieces) pieces) ≡ text_words piece ++ flat_map text_words pieces
kept_piece true piece pieces e = refl
kept_piece false piece pieces e = cc

-- pieces without a byte have no words
some_words : (pieces : List (List ℕ))
    → flat_map text_words (filter (λ (word : List ℕ). nat_lt 0 (length word)) pieces) ≡ flat_map text_words pieces
some_words [] = refl
some_words ([] ∷ pieces) = some_words pieces
some_words ((b ∷ piece) ∷ pieces) =
    kept_piece (nat_lt 0 (length (b ∷ piece))) (b ∷ piece) (filter (λ (word : List ℕ). nat_lt 0 (length word)) pieces)
    (lt-ltb 0 (length (b ∷ piece)) (omega arith))
    ∙ ap (λ (ws : List (List ℕ)). text_words (b ∷ piece) ++ ws) (some_words pieces)

all_words : (line : List ℕ) → flat_map text_words (words line) ≡ text_words line
unfolding words
all_words line = some_words (slice_split (λ b. b == 32) line) ∙ line_words line

-- the line is folded but for a rest
abbrev pub FoldsFront : List ℕ → List ℕ → List ℕ → List ℕ → Bool → Type 0
FoldsFront line rest old new first =
    (folded : List ℕ) × (text_words folded ++ flat_map text_words (words rest) ≡ flat_map text_words (words line))
    × (first ≡ true → folded ≡ []) × (new ≡ old ++ folded)

-- one word more
pub front_more : (line rest word more old middle new : List ℕ) (first : Bool) → words rest ≡ word ∷ words more
    → FoldsFront line rest old middle first → AddsWord first word middle new → FoldsFront line more old new false
front_more line rest word more old middle new first at (folded, is, none, e) (spaces, are, at_first, f) = (
  folded ++ (spaces ++ word),
  ap (λ (ws : List (List ℕ)). ws ++ flat_map text_words (words more))
      (words_more folded spaces word are (λ empty. none (at_first empty)))
      ∙ append_assoc (text_words folded) (text_words word) (flat_map text_words (words more))
      ∙ ap (λ (ws : List (List ℕ)). text_words folded ++ flat_map text_words ws) (sym at) ∙ is,
  (λ yes. let no : false ≡ true = yes in cc),
  f ∙ ap (λ (t : List ℕ). t ++ (spaces ++ word)) e ∙ append_assoc old folded (spaces ++ word),
)

pub front_whole : (line rest old middle new : List ℕ) (first : Bool) → words rest ≡ [] → FoldsFront line rest old middle first
    → new ≡ middle ++ 10 ∷ [] → Folds line old new
front_whole line rest old middle new first none (folded, is, at_first, e) f = (
  folded,
  sym (append-nil (text_words folded))
      ∙ ap (λ (ws : List (List ℕ)). text_words folded ++ flat_map text_words ws) (sym none) ∙ is ∙ all_words line,
  f ∙ ap (λ (t : List ℕ). t ++ 10 ∷ []) e ∙ append_assoc old folded (10 ∷ []),
)
