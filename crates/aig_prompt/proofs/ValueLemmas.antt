-- Bits, digits and numbers.
use Rattle.std.proofs.Common.{◌≡◌, ◌≢◌, ◌⊎◌, inl, inr, ℕ, zero, suc, ◌+◌, ◌-◌, ◌*◌, ◌/◌, ◌%◌, ◌^◌, ◌<◌, ◌≤◌, List, []}
use Rattle.std.proofs.Common.{◌∷◌, ◌++◌, length, get_or, take, drop, map, All, Some, Result, Ok, Err, refl, sym, ap}
use Rattle.std.proofs.Common.{◌∙◌, arith, add-one, length-take, append_assoc, append-nil, length-drop, subst}
use Rattle.std.proofs.Common.{take-append-drop}
use Rattle.std.proofs.lemmas.Bool.{true≢false, eqb-true}
use Rattle.std.specs.Prelude.{reverse, flat_map, fold, slice_get, Bool, IfErr, IfOk, None, decimal, ◌==◌, ◌||◌, true}
use Rattle.std.specs.Prelude.{false}
use Rattle.std.proofs.lemmas.List.{map-append, reverse-append, drop_more, drop_all, take_more, take_all, take-append-le}
use Rattle.std.proofs.lemmas.List.{drop-append-le}
use Rattle.std.proofs.Math.Seq.{take-append_seam}
use Rattle.std.proofs.lemmas.List.Elements.{All-append, All-cons, All-take}
use Rattle.std.proofs.lemmas.List.Sums.{fold-append}
use Rattle.std.proofs.lemmas.Option.{slice_get_within, get_or_from_slice_get, none-some}
use Rattle.std.proofs.lemmas.Grind.{flat_map-append, common_steps}
use Rattle.std.proofs.Math.Nat.{mod-add-div, mod-lt, mul_assoc, pow-succ'}
use Rattle.aig_parts.specs.declared.ternary.Tern.{Tern}
use Rattle.aig_parts.specs.declared.ternary.Tern.TheVariants.{Zero, One, X}
use Rattle.aig_prompt.specs.Value.{bit_value, digit_bits, digit_number, digit_of, digits_bits, letter_value}
use Rattle.aig_prompt.specs.Value.{number_bits, numeral, IsDigit, IsFitted, AreHexadecimalDigits, IsNumeral, Reads, ReadsBase}
use Rattle.aig_prompt.specs.Value.{ReadsSized}
use Rattle.aig_prompt.specs.declared.value.Bits.{Bits}
use Rattle.aig_prompt.specs.declared.value.ValueFault.{ValueFault}
use Rattle.aig_prompt.specs.declared.value.ValueFault.TheVariants as faults
use Rattle.aig_prompt.specs.state.Gathered.{Gathers}
use Rattle.aig_prompt.specs.Value.{AreLetters, AreDecimalDigits, IsUnknown, RefusesBits, RefusesValue, has_unknown, is_unknown}
use Rattle.aig_prompt.specs.Value.{reads_unknown, reads_letters, reads_digits, reads_sized, in_base_2, in_base_10}
use Rattle.aig_prompt.specs.Value.{in_base_16}

turned_cons : {X : Type 0} (x : X) (rest : List X) → reverse (x ∷ rest) ≡ reverse rest ++ x ∷ []
turned_cons x rest = reverse-append (x ∷ []) rest

digit_is : (b d : ℕ) → digit_of b ≡ Some d → digit_number b ≡ d
digit_is b d is = rw is refl

bits_cons : (b : ℕ) (digits : List ℕ) → digits_bits (b ∷ digits) ≡ digits_bits digits ++ digit_bits (digit_number b)
bits_cons b digits =
    ap (flat_map (λ x. digit_bits (digit_number x))) (turned_cons b digits)
    ∙ flat_map-append (λ x. digit_bits (digit_number x)) (reverse digits) (b ∷ [])
    ∙ ap (λ (xs : List Tern). digits_bits digits ++ xs) (append-nil (digit_bits (digit_number b)))

-- the digits from one place down
pub bits_down : (digits : List ℕ) (k n d : ℕ) → k + 1 ≡ n → n ≤ length digits → digit_of (get_or digits k 0) ≡ Some d
    → digits_bits (drop n digits) ++ digit_bits d ≡ digits_bits (drop k digits)
bits_down digits k n d e le is =
    ap (λ (m : ℕ). digits_bits (drop n digits) ++ digit_bits m) (sym (digit_is (get_or digits k 0) d is))
    ∙ sym (bits_cons (get_or digits k 0) (drop n digits))
    ∙ ap (λ (m : ℕ). digits_bits (get_or digits k 0 ∷ drop m digits)) (sym e)
    ∙ ap digits_bits (sym (drop_more digits k 0 (omega (arith, e, le))))

-- ---- numbers

-- the bits of a number, one more of them gathered
pub bits_more : (all : List Tern) (left k n : ℕ) (whole : List Tern) → k + 1 ≡ left → all ++ number_bits left n ≡ whole
    → (all ++ bit_value (n % 2 == 1) ∷ []) ++ number_bits k (n / 2) ≡ whole
unfolding number_bits
bits_more all left k n whole is h =
    append_assoc all (bit_value (n % 2 == 1) ∷ []) (number_bits k (n / 2))
    ∙ ap (λ (m : ℕ). all ++ number_bits m n) (sym (add-one k) ∙ is) ∙ h

pub bits_end : (all : List Tern) (left n : ℕ) (whole : List Tern) → left ≡ 0 → all ++ number_bits left n ≡ whole → all ≡ whole
unfolding number_bits
bits_end all left n whole is h = sym (append-nil all) ∙ ap (λ (m : ℕ). all ++ number_bits m n) (sym is) ∙ h

-- ---- digits

all_one : {X : Type 0} (P : X → Type 0) (x : X) → P x → All P (x ∷ [])
all_one P x h = All-cons P x [] h (λ k d lt. absurd (omega (arith, lt)))

pub numeral_more : (digits : List ℕ) (i n m : ℕ) → i < length digits
    → (n ≡ numeral 10 (take i digits)) × All (IsDigit 10) (take i digits)
    → (m ≡ n * 10 + digit_number (get_or digits i 0)) × IsDigit 10 (get_or digits i 0)
    → (m ≡ numeral 10 (take (i + 1) digits)) × All (IsDigit 10) (take (i + 1) digits)
numeral_more digits i n m lt so_far step =
    let b = get_or digits i 0 in
    let more : take (i + 1) digits ≡ take i digits ++ b ∷ [] = take_more digits i 0 lt in (
      step.0 ∙ ap (λ (k : ℕ). k * 10 + digit_number b) so_far.0
          ∙ sym (fold-append (λ k x. k * 10 + digit_number x) 0 (take i digits) (b ∷ [])) ∙ ap (numeral 10) (sym more),
      rw more (All-append (IsDigit 10) (take i digits) (b ∷ []) so_far.1 (all_one (IsDigit 10) b step.1)),
    )

some_digit : (digits : List ℕ) → (length digits == 0) ≡ false → digits ≡ [] → ⊥
some_digit [] h e = absurd (true≢false h)
some_digit (b ∷ digits) h e = absurd (omega (arith, ap length e))

pub numeral_all : (digits : List ℕ) (i n : ℕ) → length digits ≤ i → (length digits == 0) ≡ false
    → (n ≡ numeral 10 (take i digits)) × All (IsDigit 10) (take i digits)
    → (n ≡ numeral 10 digits) × IsNumeral 10 digits
numeral_all digits i n le some so_far =
    let all : take i digits ≡ digits = take_all i digits le in
    let digits_are : All (IsDigit 10) digits = rw (sym all) so_far.1 in
    (so_far.0 ∙ ap (numeral 10) all, (some_digit digits some, digits_are))

pub all_down : (P : ℕ → Type 0) (digits : List ℕ) (k n : ℕ) → k + 1 ≡ n → n ≤ length digits → P (get_or digits k 0)
    → All P (drop n digits) → All P (drop k digits)
all_down P digits k n e le here rest =
    rw (drop_more digits k 0 (omega (arith, e, le)), e) (All-cons P (get_or digits k 0) (drop n digits) here rest)

-- ---- what is read

pub hexadecimal_ends : {V E : Type 0} (items : V → List Tern) (digits : List ℕ) (place : ℕ) (r : Result V E) → place ≡ 0
    → (length digits == 0) ≡ false → All (IsDigit 16) (drop place digits)
    → IfOk r (λ v. IsFitted (digits_bits (drop place digits)) (items v)) → IfOk r (λ v. AreHexadecimalDigits digits (items v))
hexadecimal_ends items digits place (Ok v) is some all fitted =
    let digits_are : All (IsDigit 16) digits = subst (λ (p : ℕ). All (IsDigit 16) (drop p digits)) is all in
    ((some_digit digits some, digits_are), subst (λ (p : ℕ). IsFitted (digits_bits (drop p digits)) (items v)) is fitted)
hexadecimal_ends items digits place (Err e) is some all fitted = fitted

cut : (text : List ℕ) (at : ℕ) → slice_get text at ≡ Some 39 → text ≡ take at text ++ 39 ∷ drop (at + 1) text
cut text at is =
    let here : get_or text at 0 ≡ 39 = get_or_from_slice_get text at 39 0 is in
    let more : drop at text ≡ get_or text at 0 ∷ drop (at + 1) text = drop_more text at 0 (slice_get_within text at 39 is) in
    sym (take-append-drop at text) ∙ ap (λ (xs : List ℕ). take at text ++ xs) (more ∙ ap (λ (b : ℕ). b ∷ drop (at + 1) text) here)

pub sized_reads : {V E : Type 0} (items : V → List Tern) (text size rest : List ℕ) (at : ℕ) (r : Result V E)
    → slice_get text at ≡ Some 39 → size ≡ take at text → rest ≡ drop (at + 1) text
    → IfOk r (λ v. ReadsSized size rest (items v)) → IfOk r (λ v. Reads text (items v))
sized_reads items text size rest at (Ok v) is size_is rest_is h =
    reads_sized size rest (cut text at is ∙ (λ j. sym size_is j ++ 39 ∷ sym rest_is j)) h
sized_reads items text size rest at (Err e) is size_is rest_is h = h

pub tail_is : (text : List ℕ) (at : ℕ) → take (length text - (at + 1)) (drop (at + 1) text) ≡ drop (at + 1) text
tail_is text at = take_all (length text - (at + 1)) (drop (at + 1) text) (omega (arith, length-drop (at + 1) text))

-- what comes after the first byte
pub base_is : (rest : List ℕ) (b n : ℕ) → Some b ≡ slice_get rest 0 → b ≡ n
    → rest ≡ n ∷ take (length rest - 1) (drop 1 rest)
base_is [] b n is e = absurd (omega (arith, slice_get_within [] 0 b (sym is)))
base_is (x ∷ rest) b n is e =
    let here : x ≡ b = get_or_from_slice_get (x ∷ rest) 0 b 0 (sym is) in
    (λ j. (here ∙ e) j ∷ rest) ∙ ap (λ (xs : List ℕ). n ∷ xs) (sym (take_all (length (x ∷ rest) - 1) rest (omega arith)))

pub sized_ends : {V E : Type 0} (items : V → List Tern) (size rest : List ℕ) (width : ℕ) (r : Result V E) (P : List Tern → Type 0)
    → ((bits : List Tern) → P bits → ReadsBase rest bits) → size ≡ decimal width → IfOk r (λ v. length (items v) ≡ width)
    → IfOk r (λ v. P (items v)) → IfOk r (λ v. ReadsSized size rest (items v))
sized_ends items size rest width (Ok v) P f is size_is h = (is ∙ ap decimal (sym size_is), f (items v) h)
sized_ends items size rest width (Err e) P f is size_is h = h

-- ---- what is refused

pub not_digit : (base : ℕ) (digits : List ℕ) (k : ℕ) → k < length digits → None ≡ digit_of (get_or digits k 0)
    → All (IsDigit base) digits → ⊥
not_digit base digits k lt none all =
    let h : IsDigit base (get_or digits k 0) = all k 0 lt in
    none-some h.0 (none ∙ h.1)

pub not_letters : (letters : List ℕ) (values : List Tern) (k : ℕ) → k < length letters
    → None ≡ letter_value (get_or letters k 0) → map letter_value letters ≡ map Some values → ⊥
not_letters [] values k lt none h = absurd (omega (arith, lt))
not_letters (b ∷ letters) [] k lt none h = absurd (omega (arith, ap length h))
not_letters (b ∷ letters) (w ∷ values) zero lt none h =
    let first : letter_value b ≡ Some w = ap (λ os. get_or os 0 (Some w)) h in
    none-some w (none ∙ first)
not_letters (b ∷ letters) (w ∷ values) (suc k) lt none h =
    not_letters letters values k (omega (arith, lt)) none (ap (drop 1) h)

abbrev is_one : Tern → Bool
is_one One = true
is_one Zero = false
is_one X = false

all_last : {X : Type 0} (P : X → Type 0) (xs : List X) (x : X) → All P (xs ++ x ∷ []) → P x
all_last P [] x h = h 0 x (omega arith)
all_last P (y ∷ xs) x h = all_last P xs x (λ k d lt. h (suc k) d (omega (arith, lt)))

all_front : {X : Type 0} (P : X → Type 0) (xs ys : List X) → All P (xs ++ ys) → All P xs
all_front P xs ys h = subst (All P) (take-append_seam xs ys) (All-take P (length xs) (xs ++ ys) h)

long : (w : ℕ) (values all : List Tern) → w ≤ length values → values ≡ take w all → w ≤ length all
long w values all le is = omega (arith, le, ap length is, length-take w all)

pub gathers_one : (b : Bits) (all : List Tern) → b.width ≤ length b.values.items → Gathers all b
    → Gathers (all ++ One ∷ []) (record b { is_over = true })
gathers_one b all full g =
    let le : b.width ≤ length all = long b.width b.values.items all full g.values in
    record {
      values = g.values ∙ sym (take-append-le b.width all (One ∷ []) le);
      under = λ e. absurd (true≢false e);
      over = λ e zeros. true≢false (ap is_one (all_last (λ w. w ≡ Zero) (drop b.width all) One
          (subst (All (λ w. w ≡ Zero)) (drop-append-le b.width all (One ∷ []) le) zeros)));
    }

pub gathers_zero : (b : Bits) (all : List Tern) → b.width ≤ length b.values.items → Gathers all b
    → Gathers (all ++ Zero ∷ []) b
gathers_zero b all full g =
    let le : b.width ≤ length all = long b.width b.values.items all full g.values in
    let more : drop b.width (all ++ Zero ∷ []) ≡ drop b.width all ++ Zero ∷ [] = drop-append-le b.width all (Zero ∷ []) le in
    record {
      values = g.values ∙ sym (take-append-le b.width all (Zero ∷ []) le);
      under = λ e. subst (All (λ w. w ≡ Zero)) (sym more)
          (All-append (λ w. w ≡ Zero) (drop b.width all) (Zero ∷ []) (g.under e) (all_one (λ w. w ≡ Zero) Zero refl));
      over = λ e zeros. g.over e (all_front (λ w. w ≡ Zero) (drop b.width all) (Zero ∷ [])
          (subst (All (λ w. w ≡ Zero)) more zeros));
    }

-- bytes that begin two texts
same_first : (a b : ℕ) (xs ys rest : List ℕ) → rest ≡ a ∷ xs → rest ≡ b ∷ ys → a ≡ b
same_first a b xs ys rest e f = ap (λ zs. get_or zs 0 0) (sym e ∙ f)

same_rest : (a b : ℕ) (xs ys rest : List ℕ) → rest ≡ a ∷ xs → rest ≡ b ∷ ys → xs ≡ ys
same_rest a b xs ys rest e f = ap (drop 1) (sym e ∙ f)

pub only_16 : (rest tail : List ℕ) (bits : List Tern) → rest ≡ 104 ∷ tail → ReadsBase rest bits → AreHexadecimalDigits tail bits
only_16 rest tail bits is (in_base_16 d e h) = subst (λ ds. AreHexadecimalDigits ds bits) (same_rest 104 104 d tail rest e is) h
only_16 rest tail bits is (in_base_10 d e h) = absurd (omega (arith, same_first 100 104 d tail rest e is))
only_16 rest tail bits is (in_base_2 d e h) = absurd (omega (arith, same_first 98 104 d tail rest e is))

pub only_10 : (rest tail : List ℕ) (bits : List Tern) → rest ≡ 100 ∷ tail → ReadsBase rest bits → AreDecimalDigits tail bits
only_10 rest tail bits is (in_base_16 d e h) = absurd (omega (arith, same_first 104 100 d tail rest e is))
only_10 rest tail bits is (in_base_10 d e h) = subst (λ ds. AreDecimalDigits ds bits) (same_rest 100 100 d tail rest e is) h
only_10 rest tail bits is (in_base_2 d e h) = absurd (omega (arith, same_first 98 100 d tail rest e is))

pub sized_refused : {V : Type 0} (size rest : List ℕ) (width : ℕ) (r : Result V ValueFault) (P : List Tern → Type 0)
    → ((bits : List Tern) → ReadsBase rest bits → P bits) → IfErr r (RefusesBits P width)
    → IfErr r (RefusesBits (ReadsSized size rest) width)
sized_refused size rest width (Ok v) P f h = h
sized_refused size rest width (Err e) P f h = λ other bits is reads. h other bits is (f bits reads.1)

-- a text without a quote is none with a width
no_quote : (size rest text : List ℕ) → text ≡ size ++ 39 ∷ rest → All (λ b. b ≢ 39) text → ⊥
no_quote size rest text is none =
    all_last (λ b. b ≢ 39) size 39 (all_front (λ b. b ≢ 39) (size ++ 39 ∷ []) rest
    (subst (All (λ b. b ≢ 39)) (is ∙ sym (append_assoc size (39 ∷ []) rest)) none)) refl

unknown_is : (b : ℕ) → is_unknown b ≡ true → (b ≡ 120) ⊎ (b ≡ 88)
unknown_is b h =
    (elim (b == 120) as (λ t. (b == 120) ≡ t → (b ≡ 120) ⊎ (b ≡ 88)) [
      | true ↦ λ e. inl (eqb-true b 120 e)
      | false ↦ λ e. inr (eqb-true b 88 (sym (ap (λ t. t || b == 88) e) ∙ h))
    ]) refl

unknown_no_digit : (b : ℕ) → is_unknown b ≡ true → None ≡ digit_of b
unknown_no_digit b h = elim (unknown_is b h) [ inl e ↦ ap digit_of (sym e) | inr e ↦ ap digit_of (sym e) ]

pub letters_no_digits : (base : ℕ) (text : List ℕ) → has_unknown text ≡ true → All (IsDigit base) text → ⊥
letters_no_digits base [] h all = true≢false (sym h)
letters_no_digits base (b ∷ text) h all =
    (elim (is_unknown b) as (λ t. is_unknown b ≡ t → ⊥) [
      | true ↦ λ e. not_digit base (b ∷ text) 0 (omega arith) (unknown_no_digit b e) all
      | false ↦ λ e. letters_no_digits base text (sym (ap (λ t. t || has_unknown text) e) ∙ h) (λ k d lt. all (suc k) d (omega (arith, lt)))
    ]) refl

pub plain_refused_letters : {V : Type 0} (text : List ℕ) (width : ℕ) (r : Result V ValueFault) → All (λ b. b ≢ 39) text
    → (IsUnknown text → ⊥) → has_unknown text ≡ true → IfErr r (RefusesBits (AreLetters text) width)
    → IfErr r (RefusesValue text width)
plain_refused_letters text width (Ok v) quote alone some h = h
plain_refused_letters text width (Err e) quote alone some h = λ other bits is. go other bits is
  where
    go : e ≢ faults.Memory → (bits : List Tern) → length bits ≡ width → Reads text bits → ⊥
    go other bits is (reads_unknown u w) = alone u
    go other bits is (reads_letters u w) = h other bits is w
    go other bits is (reads_digits u) = letters_no_digits 16 text some u.0.1
    go other bits is (reads_sized size rest e u) = no_quote size rest text e quote

pub plain_refused_digits : {V : Type 0} (text : List ℕ) (width : ℕ) (r : Result V ValueFault) → All (λ b. b ≢ 39) text
    → (IsUnknown text → ⊥) → has_unknown text ≡ false → IfErr r (RefusesBits (AreHexadecimalDigits text) width)
    → IfErr r (RefusesValue text width)
plain_refused_digits text width (Ok v) quote alone none h = h
plain_refused_digits text width (Err e) quote alone none h = λ other bits is. go other bits is
  where
    go : e ≢ faults.Memory → (bits : List Tern) → length bits ≡ width → Reads text bits → ⊥
    go other bits is (reads_unknown u w) = alone u
    go other bits is (reads_letters u w) = true≢false (sym u ∙ none)
    go other bits is (reads_digits u) = h other bits is u
    go other bits is (reads_sized size rest e u) = no_quote size rest text e quote

-- ---- numbers over 64 bits

grows : (digits : List ℕ) (n : ℕ) → n ≤ fold (λ k x. k * 10 + digit_number x) n digits
grows [] n = omega arith
grows (b ∷ digits) n = omega (arith, grows digits (n * 10 + digit_number b))

pub numeral_refused : (digits : List ℕ) (i n : ℕ) → i < length digits → n ≡ numeral 10 (take i digits)
    → (IsDigit 10 (get_or digits i 0) → n * 10 + digit_number (get_or digits i 0) < 2 ^ 64 → ⊥)
    → IsNumeral 10 digits → numeral 10 digits < 2 ^ 64 → ⊥
numeral_refused digits i n lt is step numeral_is small =
    let b = get_or digits i 0 in
    let more : take (i + 1) digits ≡ take i digits ++ b ∷ [] = take_more digits i 0 lt in
    let first : numeral 10 (take (i + 1) digits) ≡ n * 10 + digit_number b =
    ap (numeral 10) more ∙ fold-append (λ k x. k * 10 + digit_number x) 0 (take i digits) (b ∷ [])
    ∙ ap (λ (k : ℕ). k * 10 + digit_number b) (sym is) in
    let whole : numeral 10 digits ≡ fold (λ k x. k * 10 + digit_number x) (numeral 10 (take (i + 1) digits)) (drop (i + 1) digits) =
    ap (numeral 10) (sym (take-append-drop (i + 1) digits))
    ∙ fold-append (λ k x. k * 10 + digit_number x) 0 (take (i + 1) digits) (drop (i + 1) digits) in
    step (numeral_is.1 i 0 lt) (lower (n * 10 + digit_number b) (numeral 10 (take (i + 1) digits)) (numeral 10 digits) _ first whole
    (grows (drop (i + 1) digits) (numeral 10 (take (i + 1) digits))) small)
  where
    lower : (a b c d : ℕ) → b ≡ a → c ≡ d → b ≤ d → c < 2 ^ 64 → a < 2 ^ 64
    lower a b c d e f le lt = omega (arith, e, f, le, lt)

pub decimal_ends : {V E : Type 0} (items : V → List Tern) (digits : List ℕ) (n : ℕ) (all : List Tern) (r : Result V E)
    → (n ≡ numeral 10 digits) × IsNumeral 10 digits → n < 2 ^ 64 → all ≡ number_bits 64 (numeral 10 digits)
    → IfOk r (λ v. IsFitted all (items v)) → IfOk r (λ v. AreDecimalDigits digits (items v))
decimal_ends items digits n all (Ok v) is small whole fitted =
    (is.1, subst (λ k. k < 2 ^ 64) is.0 small, subst (λ xs. IsFitted xs (items v)) whole fitted)
decimal_ends items digits n all (Err e) is small whole fitted = fitted

pub decimal_refused : {V : Type 0} (digits : List ℕ) (width : ℕ) (all : List Tern) (r : Result V ValueFault)
    → all ≡ number_bits 64 (numeral 10 digits)
    → IfErr r (λ f. f ≢ faults.Memory → All (λ w. w ≡ Zero) (drop width all) → ⊥) → IfErr r (RefusesBits (AreDecimalDigits digits) width)
decimal_refused digits width all (Ok v) whole h = h
decimal_refused digits width all (Err e) whole h = λ other bits is reads.
    h other (subst (λ k. All (λ w. w ≡ Zero) (drop k all)) is
    (subst (λ xs. All (λ w. w ≡ Zero) (drop (length bits) xs)) (sym whole) reads.2.others))

-- a fact that no fault changes
