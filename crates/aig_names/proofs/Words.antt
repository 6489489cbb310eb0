-- Words of symbols.
use Rattle.std.proofs.Common.{◌≡◌, ◌≢◌, ℕ, zero, suc, ◌+◌, ◌-◌, ◌<◌, ◌≤◌, true, false, List, [], ◌∷◌, ◌++◌, length}
use Rattle.std.proofs.Common.{get_or, take, drop, map, filter, All, inl, inr, refl, sym, ap, ◌∙◌, arith}
use Rattle.std.proofs.Common.{take-append-drop, length-take, length-drop, append_assoc, append-nil, get_or-take}
use Rattle.std.proofs.Common.{get_or-drop}
use Rattle.std.proofs.lemmas.List.{get_or_default, take_all, drop_more, drop_all}
use Rattle.std.specs.Prelude.{nat_lt, ◌==◌, decimal}
use Rattle.std.proofs.lemmas.Bool.{ne_eqb, lt-ltb, cases_lt}
use Rattle.std.proofs.lemmas.List.Splits.{slice_split_at, slice_split_none}
use Rattle.aig_parts.specs.declared.symbols.Kind.{Kind}
use Rattle.aig_parts.specs.Letters.{letter}
use Rattle.aig_names.specs.Names.{words, cut_at, as_name, name_byte, as_name_after, names_by}

pub words_none : words [] ≡ []
unfolding words
words_none = refl

words_blank : (text : List ℕ) → words (32 ∷ text) ≡ words text
unfolding words
words_blank text = refl

pub words_blanks : (text : List ℕ) (n : ℕ) → n ≤ length text → ((k : ℕ) → k < n → get_or text k 0 ≡ 32)
    → words text ≡ words (drop n text)
words_blanks text zero le blank = refl
words_blanks [] (suc n) le blank = absurd (omega arith)
words_blanks (b ∷ text) (suc n) le blank =
    let is : b ≡ 32 = blank 0 (omega arith) in
    ap (λ (x : ℕ). words (x ∷ text)) is ∙ words_blank text
    ∙ words_blanks text n (omega arith) (λ k lt. blank (suc k) (omega arith))

no_blank : (word : List ℕ) → ((k : ℕ) → k < length word → get_or word k 0 ≢ 32) → All (λ b. (b == 32) ≡ false) word
no_blank word h = λ k d lt. ne_eqb (get_or word k d) 32 (λ e. h k lt (get_or_default word k 0 d lt ∙ e))

words_last : (word : List ℕ) → 0 < length word → ((k : ℕ) → k < length word → get_or word k 0 ≢ 32) → words word ≡ word ∷ []
unfolding words
words_last word some h =
    let one : cut_at 32 word ≡ word ∷ [] = slice_split_none (λ b. b == 32) word (no_blank word h) in
    let full : nat_lt 0 (length word) ≡ true = lt-ltb 0 (length word) some in
    ap (filter (λ w. nat_lt 0 (length w))) one ∙ (rw full refl)

words_then : (word text : List ℕ) → 0 < length word → ((k : ℕ) → k < length word → get_or word k 0 ≢ 32)
    → words (word ++ (32 ∷ text)) ≡ word ∷ words (32 ∷ text)
unfolding words
words_then word text some h =
    let cut : cut_at 32 (word ++ (32 ∷ text)) ≡ word ∷ cut_at 32 text = slice_split_at (λ b. b == 32) word 32 text (no_blank word h) refl in
    let full : nat_lt 0 (length word) ≡ true = lt-ltb 0 (length word) some in
    ap (filter (λ w. nat_lt 0 (length w))) cut ∙ (rw full refl)

words_front : (word rest : List ℕ) → 0 < length word → ((k : ℕ) → k < length word → get_or word k 0 ≢ 32)
    → (0 < length rest → get_or rest 0 0 ≡ 32) → words (word ++ rest) ≡ word ∷ words rest
words_front word [] some h e = ap words (append-nil word) ∙ words_last word some h ∙ ap (λ (ws : List (List ℕ)). word ∷ ws) (sym words_none)
words_front word (b ∷ rest) some h e =
    let is : b ≡ 32 = e (omega arith) in
    rw is (words_then word rest some h)

at_end : (text : List ℕ) (n : ℕ) → 0 < length (drop n text) → (n < length text → get_or text n 0 ≡ 32) → get_or text (n + 0) 0 ≡ 32
at_end text n lt e =
    let same : n + 0 ≡ n = omega arith in
    rw same (e (omega (arith, length-drop n text)))

pub words_first : (text : List ℕ) (n : ℕ) → 0 < n → n ≤ length text → ((k : ℕ) → k < n → get_or text k 0 ≢ 32)
    → (n < length text → get_or text n 0 ≡ 32) → words text ≡ take n text ∷ words (drop n text)
words_first text n some le h e =
    ap words (sym (take-append-drop n text)) ∙ words_front (take n text) (drop n text) (omega (arith, length-take n text))
    (λ k lt q. h k (omega (arith, length-take n text)) (sym (get_or-take n text k 0 (omega (arith, length-take n text))) ∙ q))
    (λ lt. get_or-drop n text 0 0 ∙ at_end text n lt e)

-- the rest of a slice
pub rest_is : (n : ℕ) (xs : List ℕ) → n ≤ length xs → take (length xs - n) (drop n xs) ≡ drop n xs
rest_is n xs le = take_all (length xs - n) (drop n xs) (omega (arith, length-drop n xs))

-- the first word after blanks
pub first_word_is : (text word rest : List ℕ) (n m : ℕ) → n ≤ length text → ((k : ℕ) → k < n → get_or text k 0 ≡ 32)
    → word ≡ drop n text → 0 < m → m ≤ length word → ((k : ℕ) → k < m → get_or word k 0 ≢ 32)
    → (m < length word → get_or word m 0 ≡ 32) → rest ≡ drop m word
    → (words text ≡ take m word ∷ words rest) × (length rest < length text)
first_word_is text word rest n m le blank is some within h end rest_of = (
  words_blanks text n le blank ∙ ap words (sym is) ∙ words_first word m some within h end
      ∙ ap (λ (r : List ℕ). take m word ∷ words r) (sym rest_of),
  omega (arith, ap length is, ap length rest_of, length-drop n text, length-drop m word),
)

pub no_word : (text word : List ℕ) (n : ℕ) → n ≤ length text → ((k : ℕ) → k < n → get_or text k 0 ≡ 32)
    → word ≡ drop n text → length word ≡ 0 → words text ≡ []
no_word text [] n le blank is none = words_blanks text n le blank ∙ ap words (sym is) ∙ words_none
no_word text (b ∷ word) n le blank is none = absurd (omega arith)

-- a text after all its blanks that has no word before its first blank has no byte
pub no_bytes : (text word : List ℕ) (n m : ℕ) → word ≡ drop n text → m ≡ 0 → (n < length text → get_or text n 0 ≢ 32)
    → (m < length word → get_or word m 0 ≡ 32) → length word ≡ 0
no_bytes text word n m is zero_is first end = elim (cases_lt 0 (length word)) [
  | inl some ↦
      let here : n < length text = omega (arith, ap length is, length-drop n text) in
      let at : get_or word 0 0 ≡ 32 = ap (get_or_at word) (sym zero_is) ∙ end (omega arith) in
      let same : get_or word 0 0 ≡ get_or text n 0 = ap (λ (w : List ℕ). get_or w 0 0) is ∙ get_or-drop n text 0 0 ∙ ap (get_or_at text) (omega arith) in
      absurd (first here (sym same ∙ at))
  | inr none ↦ omega arith
]
  where
    get_or_at : List ℕ → ℕ → ℕ
    get_or_at xs k = get_or xs k 0

pub names_some : (kind : Kind) (p : ℕ) (ws : List (List ℕ)) (w : List ℕ) (rest : List (List ℕ)) → ws ≡ w ∷ rest
    → map as_name ws ≡ names_by kind p ws
names_some kind p ws w rest e = rw e refl

pub names_none : (kind : Kind) (p : ℕ) (ws : List (List ℕ)) → ws ≡ [] → (letter kind ∷ decimal p) ∷ [] ≡ names_by kind p ws
names_none kind p ws e = rw e refl

-- one more byte of a word, and none
pub shown_more : (text word : List ℕ) (before i : ℕ) → i < length word
    → (text ++ (name_byte before (get_or word i 0) ∷ [])) ++ as_name_after (get_or word i 0) (drop (i + 1) word)
    ≡ text ++ as_name_after before (drop i word)
unfolding as_name_after
shown_more text word before i lt =
    append_assoc text (name_byte before (get_or word i 0) ∷ []) (as_name_after (get_or word i 0) (drop (i + 1) word))
    ∙ ap (λ (xs : List ℕ). text ++ as_name_after before xs) (sym (drop_more word i 0 lt))

pub shown_all : (text word : List ℕ) (before i : ℕ) → length word ≤ i → text ++ as_name_after before (drop i word) ≡ text
unfolding as_name_after
shown_all text word before i le =
    ap (λ (xs : List ℕ). text ++ as_name_after before xs) (drop_all i word le) ∙ append-nil text
