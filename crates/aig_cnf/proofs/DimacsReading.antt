-- What a reader of DIMACS finds in the text of a formula.
use Rattle.std.proofs.Common.{◌≡◌, ◌≢◌, inl, inr, ℕ, ◌+◌, ◌-◌, ◌*◌, ◌%◌, ◌^◌, ◌<◌, ◌≤◌, eqb, true, false, List, [], ◌∷◌}
use Rattle.std.proofs.Common.{◌++◌, length, map, filter, All, Some, refl, sym, ap, ap₂, ◌∙◌, subst, arith, append_assoc}
use Rattle.std.proofs.Common.{append-nil}
use Rattle.std.specs.Prelude.{◌&&◌, nat_lt, nat_le, codes, Option, slice_index}
use Rattle.std.specs.Fmt.{decimal}
use Rattle.std.specs.List.{flat_map}
use Rattle.std.specs.Option.{option_and_then, option_map}
use Rattle.std.specs.Str.{all_ascii_digits, bytes_eq}
use Rattle.std.specs.Str.Parse.{digits_value}
use Rattle.std.proofs.lemmas.Bool.{and_from, false_from_ne_true, le-leb, lt-ltb, ne_eqb}
use Rattle.std.proofs.lemmas.Fmt.{decimal_nonempty, digits_decimal, digits_value-decimal}
use Rattle.std.proofs.lemmas.List.Elements.{All-nil, All-cons, All-head, All-tail, All-append, All-weaker}
use Rattle.std.proofs.lemmas.List.Splits.{slice_split_at, slice_split_none}
use Rattle.std.proofs.lemmas.Slice.Eq.{bytes_eq-Decides}
use Rattle.std.proofs.lemmas.Str.Parse.{IsNumeralModel, numerals_by_value, tells_all_ascii_digits}
use Rattle.aig_parts.specs.Literal.{variable}
use Rattle.aig_cnf.specs.Dimacs.{sign_text, literal_text, clause_text, problem_line, formula_text}
use Rattle.aig_cnf.specs.DimacsRead.{Found, is_space, words, number, signed, literal_of, clauses_of, counts_of}
use Rattle.aig_cnf.specs.DimacsRead.{found_in, read_formula}
use Rattle.aig_bytes.proofs.Decimals.{IsDigit, digits-decimal}
use Rattle.aig_cnf.proofs.DimacsLines.{decimal_no_end, no_end_by_test, line_end, line_more}
use Rattle.aig_cnf.proofs.DimacsLines.{HasLines, lines_none, lines_then, other_line}
use Rattle.aig_cnf.proofs.SignLemmas.{signs}

-- ---- numbers

model : IsNumeralModel (λ ds. all_ascii_digits ds ≡ true) (digits_value 10)
model = numerals_by_value (λ ds. all_ascii_digits ds ≡ true) tells_all_ascii_digits

number_back : (n : ℕ) → n < 2 ^ 64 → number (decimal n) ≡ Some n
unfolding number
number_back n small =
    let all : all_ascii_digits (decimal n) ≡ true = digits_decimal model n small in
    let value : digits_value 10 (decimal n) ≡ n = digits_value-decimal model n small in
    rw all (ap Some value)

-- ---- words

abbrev pub HasNoSpace : List ℕ → Type 0
HasNoSpace word = All (λ b. is_space b ≡ false) word

no_space : (b : ℕ) → 32 < b → is_space b ≡ false
no_space b lt =
    let h0 = ne_eqb b 32 (λ e. omega (arith, e, lt)) in
    let h1 = ne_eqb b 9 (λ e. omega (arith, e, lt)) in
    let h2 = ne_eqb b 10 (λ e. omega (arith, e, lt)) in
    let h3 = ne_eqb b 13 (λ e. omega (arith, e, lt)) in
    rw (h0, h1, h2, h3) refl

digits_no_space : (bytes : List ℕ) → All IsDigit bytes → HasNoSpace bytes
digits_no_space bytes h = All-weaker IsDigit (λ b. is_space b ≡ false) (λ b v. no_space b (omega (arith, v.0))) bytes h

first_word : (word more : List ℕ) → HasNoSpace word → 0 < length word → words (word ++ 32 ∷ more) ≡ word ∷ words more
first_word word more h some =
    let full : nat_lt 0 (length word) ≡ true = lt-ltb 0 (length word) some in
    ap (filter (λ (w : List ℕ). nat_lt 0 (length w))) (slice_split_at is_space word 32 more h refl)
    ∙ (rw full refl)

last_word : (word : List ℕ) → HasNoSpace word → 0 < length word → words word ≡ word ∷ []
last_word word h some =
    let full : nat_lt 0 (length word) ≡ true = lt-ltb 0 (length word) some in
    ap (filter (λ (w : List ℕ). nat_lt 0 (length w))) (slice_split_none is_space word h)
    ∙ (rw full refl)

-- ---- literals

-- the word of a literal
abbrev pub number_word : ℕ → List ℕ
number_word l = sign_text l ++ decimal (variable l + 1)

pub literal_word : (l : ℕ) → literal_text l ≡ number_word l ++ codes " "
unfolding literal_text
literal_word l = sym (append_assoc (sign_text l) (decimal (variable l + 1)) (codes " "))

-- a reader takes it for the literal
record IsNumberWord (l : ℕ) (word : List ℕ) : Type 0 where
  pub bytes : All (λ b. (33 ≤ b) × (b ≤ 57)) word
  pub some : 0 < length word
  pub not_end : bytes_eq word (codes "0") ≡ false
  pub read : (v : ℕ) → variable l < v → literal_of v word ≡ Some l

unequal : (xs ys : List ℕ) → xs ≢ ys → bytes_eq xs ys ≡ false
unequal xs ys ne = false_from_ne_true (bytes_eq xs ys) (λ e. ne ((bytes_eq-Decides xs ys).0 e))

within : (n v : ℕ) → n < v → (nat_lt 0 (n + 1) && nat_le (n + 1) v) ≡ true
within n v lt =
    and_from (nat_lt 0 (n + 1)) (nat_le (n + 1) v) (lt-ltb 0 (n + 1) (omega arith)) (le-leb (n + 1) v (omega arith))

literal_back : (v s n l : ℕ) → n < v → 2 * n + s ≡ l → signed v s (n + 1) ≡ Some l
unfolding signed
literal_back v s n l lt e =
    let inside = within n v lt in
    let same : 2 * ((n + 1) - 1) + s ≡ l = omega (arith, e) in
    rw inside (ap Some same)

-- digits alone
positive_literal : (v : ℕ) (word : List ℕ) → All IsDigit word → 0 < length word
    → literal_of v word ≡ option_and_then (signed v 0) (number word)
unfolding literal_of
positive_literal v [] h some = absurd (omega (arith, some))
positive_literal v (b ∷ rest) h some =
    let first = All-head IsDigit b rest h in
    let other : eqb b 45 ≡ false = ne_eqb b 45 (λ e. omega (arith, first.0, e)) in
    rw other refl

module _ (l : ℕ) (small : variable l + 1 < 2 ^ 64) where
  even_word : l % 2 ≡ 0 → IsNumberWord l (decimal (variable l + 1))
  even_word even = record {
    bytes = All-weaker IsDigit (λ b. (33 ≤ b) × (b ≤ 57)) (λ b h. (omega (arith, h.0), h.1)) (decimal (variable l + 1))
        (digits-decimal (variable l + 1));
    some = decimal_nonempty (variable l + 1) small;
    not_end = unequal (decimal (variable l + 1)) (codes "0") (λ e.
        let back : digits_value 10 (decimal (variable l + 1)) ≡ variable l + 1 = digits_value-decimal model (variable l + 1) small in
        let zero_is : digits_value 10 (decimal (variable l + 1)) ≡ 0 = ap (digits_value 10) e in
        omega (arith, back, zero_is));
    read = λ v lt.
        positive_literal v (decimal (variable l + 1)) (digits-decimal (variable l + 1)) (decimal_nonempty (variable l + 1) small)
        ∙ ap (option_and_then (signed v 0)) (number_back (variable l + 1) small)
        ∙ literal_back v 0 (variable l) l lt (omega (arith, even));
  }

  odd_word : l % 2 ≡ 1 → IsNumberWord l (45 ∷ decimal (variable l + 1))
  unfolding literal_of
  odd_word odd = record {
    bytes = All-cons (λ b. (33 ≤ b) × (b ≤ 57)) 45 (decimal (variable l + 1)) (omega arith, omega arith)
        (All-weaker IsDigit (λ b. (33 ≤ b) × (b ≤ 57)) (λ b h. (omega (arith, h.0), h.1)) (decimal (variable l + 1))
        (digits-decimal (variable l + 1)));
    some = omega arith;
    not_end = unequal (45 ∷ decimal (variable l + 1)) (codes "0") (λ e.
        let first : 45 ≡ 48 = ap (λ (xs : List ℕ). slice_index xs 0) e in omega (arith, first));
    read = λ v lt.
        ap (option_and_then (signed v 1)) (number_back (variable l + 1) small)
        ∙ literal_back v 1 (variable l) l lt (omega (arith, odd));
  }

  number_word_is : IsNumberWord l (number_word l)
  number_word_is = elim (signs l) [
    | inl even ↦ rw even (even_word even)
    | inr odd ↦ rw odd (odd_word odd)
  ]

-- ---- clauses

abbrev clause_line : List ℕ → List ℕ
clause_line clause = flat_map literal_text clause ++ 48 ∷ []

abbrev clause_words : List ℕ → List (List ℕ)
clause_words clause = map number_word clause ++ codes "0" ∷ []

abbrev pub AreBelow : ℕ → List ℕ → Type 0
AreBelow v ls = All (λ l. variable l < v) ls

line_of_more : (l : ℕ) (ls : List ℕ) → clause_line (l ∷ ls) ≡ number_word l ++ 32 ∷ clause_line ls
line_of_more l ls =
    append_assoc (literal_text l) (flat_map literal_text ls) (48 ∷ [])
    ∙ ap (λ (xs : List ℕ). xs ++ clause_line ls) (literal_word l)
    ∙ append_assoc (number_word l) (32 ∷ []) (clause_line ls)

-- where there are so few variables
module _ (v : ℕ) (few : v < 2 ^ 64) where
  word_is : (l : ℕ) → variable l < v → IsNumberWord l (number_word l)
  word_is l lt = number_word_is l (omega (arith, lt, few))

  visible : (bytes : List ℕ) → All (λ b. (33 ≤ b) × (b ≤ 57)) bytes → HasNoSpace bytes
  visible bytes h = All-weaker (λ b. (33 ≤ b) × (b ≤ 57)) (λ b. is_space b ≡ false)
      (λ b h. no_space b (omega (arith, h.0))) bytes h

  line_words : (ls : List ℕ) → AreBelow v ls → words (clause_line ls) ≡ clause_words ls
  line_words [] h = refl
  line_words (l ∷ ls) h =
      let is = word_is l (All-head (λ l. variable l < v) l ls h) in
      ap words (line_of_more l ls) ∙ first_word (number_word l) (clause_line ls) (visible (number_word l) is.bytes) is.some
      ∙ ap (λ (ws : List (List ℕ)). number_word l ∷ ws) (line_words ls (All-tail (λ l. variable l < v) l ls h))

  abbrev IsPlain : ℕ → Type 0
  IsPlain b = (32 ≤ b) × (b ≤ 57)

  line_plain : (ls : List ℕ) → AreBelow v ls → All IsPlain (clause_line ls)
  line_plain [] h = All-cons IsPlain 48 [] (omega arith, omega arith) (All-nil IsPlain)
  line_plain (l ∷ ls) h =
      let is = word_is l (All-head (λ l. variable l < v) l ls h) in
      subst (All IsPlain) (sym (line_of_more l ls))
      (All-append IsPlain (number_word l) (32 ∷ clause_line ls)
      (All-weaker (λ b. (33 ≤ b) × (b ≤ 57)) IsPlain (λ b h. (omega (arith, h.0), h.1)) (number_word l) is.bytes)
      (All-cons IsPlain 32 (clause_line ls) (omega arith, omega arith) (line_plain ls (All-tail (λ l. variable l < v) l ls h))))

  no_comment : (line : List ℕ) → All IsPlain line → slice_index line 0 ≢ 99
  no_comment [] h e = omega (arith, e)
  no_comment (b ∷ rest) h e = let first = All-head IsPlain b rest h in omega (arith, first.1, e)

  clause_lines : (ls : List ℕ) → AreBelow v ls → HasLines (clause_text ls) (clause_line ls ∷ [])
  unfolding clause_text
  clause_lines ls h =
      let plain = line_plain ls h in
      other_line (clause_text ls) (record {
        line = clause_line ls;
        no_end = All-weaker IsPlain (λ b. b ≢ 10) (λ b h e. omega (arith, h.0, e)) (clause_line ls) plain;
        is = sym (append_assoc (flat_map literal_text ls) (48 ∷ []) (10 ∷ []));
      }) (no_comment (clause_line ls) plain)

  -- a clause is read up to its 0
  clause_read : (ls begun : List ℕ) (more : List (List ℕ)) → AreBelow v ls
      → clauses_of v (clause_words ls ++ more) begun ≡ option_map (λ (cs : List (List ℕ)). (begun ++ ls) ∷ cs) (clauses_of v more [])
  unfolding clauses_of
  clause_read [] begun more h = ap (λ (b : List ℕ). option_map (λ (cs : List (List ℕ)). b ∷ cs) (clauses_of v more [])) (sym (append-nil begun))
  clause_read (l ∷ ls) begun more h =
      let lt = All-head (λ l. variable l < v) l ls h in
      let is = word_is l lt in
      let not_end = is.not_end in
      let read = is.read v lt in
      rw (not_end, read)
      (clause_read ls (begun ++ l ∷ []) more (All-tail (λ l. variable l < v) l ls h)
      ∙ ap (λ (b : List ℕ). option_map (λ (cs : List (List ℕ)). b ∷ cs) (clauses_of v more [])) (append_assoc begun (l ∷ []) ls))

  abbrev all_words : List (List ℕ) → List (List ℕ)
  all_words cs = flat_map clause_words cs

  clauses_read : (cs : List (List ℕ)) → All (AreBelow v) cs → clauses_of v (all_words cs) [] ≡ Some cs
  unfolding clauses_of
  clauses_read [] h = refl
  clauses_read (c ∷ cs) h =
      clause_read c [] (all_words cs) (All-head (AreBelow v) c cs h)
      ∙ ap (option_map (λ (ds : List (List ℕ)). c ∷ ds)) (clauses_read cs (All-tail (AreBelow v) c cs h))

  all_lines : (cs : List (List ℕ)) → All (AreBelow v) cs → HasLines (flat_map clause_text cs) (map clause_line cs)
  all_lines [] h = lines_none
  all_lines (c ∷ cs) h =
      lines_then (clause_text c) (flat_map clause_text cs) (clause_line c ∷ []) (map clause_line cs)
      (clause_lines c (All-head (AreBelow v) c cs h)) (all_lines cs (All-tail (AreBelow v) c cs h))

  words_of_all : (cs : List (List ℕ)) → All (AreBelow v) cs → flat_map words (map clause_line cs ++ [] ∷ []) ≡ all_words cs
  words_of_all [] h = refl
  words_of_all (c ∷ cs) h =
      ap₂ (λ (a b : List (List ℕ)). a ++ b) (line_words c (All-head (AreBelow v) c cs h))
      (words_of_all cs (All-tail (AreBelow v) c cs h))

  -- ---- the problem line

  abbrev problem : ℕ → List ℕ
  problem n = codes "p cnf " ++ ((decimal v ++ codes " ") ++ (decimal n ++ []))

  problem_lines : (n : ℕ) → HasLines (problem_line v n) (problem n ∷ [])
  unfolding problem_line
  problem_lines n =
      other_line (problem_line v n)
      (line_more (codes "p cnf ") ((decimal v ++ codes " ") ++ (decimal n ++ codes "\n"))
      (no_end_by_test (codes "p cnf ") refl) (line_more (decimal v ++ codes " ") (decimal n ++ codes "\n")
      (All-append (λ b. b ≢ 10) (decimal v) (codes " ") (decimal_no_end v) (no_end_by_test (codes " ") refl))
      (line_more (decimal n) (codes "\n") (decimal_no_end n) line_end))) (λ e. omega (arith, e))

  problem_words : (n : ℕ) → n < 2 ^ 64 → words (problem n) ≡ codes "p" ∷ codes "cnf" ∷ decimal v ∷ decimal n ∷ []
  problem_words n small =
      ap (λ (ws : List (List ℕ)). codes "p" ∷ codes "cnf" ∷ ws)
      (ap words (append_assoc (decimal v) (32 ∷ []) (decimal n ++ []))
      ∙ first_word (decimal v) (decimal n ++ []) (digits_no_space (decimal v) (digits-decimal v)) (decimal_nonempty v few)
      ∙ ap (λ (ws : List (List ℕ)). decimal v ∷ ws) (ap words (append-nil (decimal n))
      ∙ last_word (decimal n) (digits_no_space (decimal n) (digits-decimal n)) (decimal_nonempty n small)))

  counts_read : (n : ℕ) → n < 2 ^ 64
      → counts_of (codes "p" ∷ codes "cnf" ∷ decimal v ∷ decimal n ∷ []) ≡ Some (v, n)
  unfolding counts_of
  counts_read n small =
      ap₂ (λ (a b : Option ℕ). option_and_then (λ (i : ℕ). option_map (λ (j : ℕ). (i, j)) b) a)
      (number_back v few) (number_back n small)

  -- ---- the whole

  abbrev found : ℕ × ℕ → List (List ℕ) → Found
  found m ds = (m.0, m.1, ds)

  pub reads_after : (comments : List ℕ) (cs : List (List ℕ)) → HasLines comments [] → length cs < 2 ^ 64
      → All (AreBelow v) cs
      → read_formula (comments ++ formula_text v cs) ≡ Some (v, length cs, cs)
  unfolding formula_text found_in
  reads_after comments cs h count below =
      let n : ℕ = length cs in
      let k = lines_then comments (formula_text v cs) [] (problem n ∷ map clause_line cs) h
      (lines_then (problem_line v n) (flat_map clause_text cs) (problem n ∷ []) (map clause_line cs)
      (problem_lines n) (all_lines cs below)) in
      ap read_formula (sym (append-nil (comments ++ formula_text v cs))) ∙ ap found_in (k.at [])
      ∙ ap₂ (λ (a : Option (ℕ × ℕ)) (b : List (List ℕ)). option_and_then (λ (m : ℕ × ℕ). option_map (λ (ds : List (List ℕ)).
      found m ds) (clauses_of m.0 b [])) a) (ap counts_of (problem_words n count) ∙ counts_read n count) (words_of_all cs below)
      ∙ ap (option_map (λ (ds : List (List ℕ)). found (v, n) ds)) (clauses_read cs below)
