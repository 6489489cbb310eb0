-- Digits and letters of values, written from the last bit to the first.
use Rattle.std.proofs.Common.{◌≡◌, ◌≢◌, ℕ, ◌+◌, ◌*◌, ◌<◌, true, false, List, [], ◌∷◌, ◌++◌, length, get_or, take, map}
use Rattle.std.proofs.Common.{Option, refl, sym, ap, ◌∙◌, arith, append_assoc, append-nil}
use Rattle.std.specs.Prelude.{reverse, decimal, codes, ◌==◌}
use Rattle.std.specs.List.{range_with_len, list_all}
use Rattle.std.proofs.lemmas.List.{map-append, reverse-append, take_more, take_all}
use Rattle.std.proofs.lemmas.Bool.{ne_eqb, eq-eqb}
use Rattle.std.proofs.lemmas.List.FromFn.{map-range_with_len_more}
use Rattle.aig_parts.specs.declared.ternary.Tern.{Tern}
use Rattle.aig_signals.specs.Value.{bit_letter, binary, hexadecimal, hexadecimal_digit, four_bits, value_text}
use Rattle.aig_signals.specs.Value.{is_unknown, is_known}

-- the last of some items is the first where they are turned round
turned_more : {X : Type 0} (front : List X) (x : X) → reverse (front ++ x ∷ []) ≡ x ∷ reverse front
turned_more front x = reverse-append front (x ∷ [])

module _ (bits : List (Option Tern)) where
  pub binary_all : (text : List ℕ) (n : ℕ) → n ≡ length bits → text ++ reverse (map bit_letter (take n bits)) ≡ text ++ binary bits
  binary_all text n is = ap (λ (bs : List (Option Tern)). text ++ reverse (map bit_letter bs)) (take_all n bits (omega (arith, is)))

  -- one bit more
  pub binary_more : (old new all : List ℕ) (k n : ℕ) (d : Option Tern) (b : ℕ) → n ≡ k + 1 → k < length bits
      → b ≡ bit_letter (get_or bits k d) → new ≡ old ++ b ∷ []
      → old ++ reverse (map bit_letter (take n bits)) ≡ all → new ++ reverse (map bit_letter (take k bits)) ≡ all
  binary_more old new all k n d b n_is lt is new_is h =
      let front : List ℕ = reverse (map bit_letter (take k bits)) in
      let turned : reverse (map bit_letter (take n bits)) ≡ b ∷ front =
      ap (λ (m : ℕ). reverse (map bit_letter (take m bits))) n_is
      ∙ ap (λ (bs : List (Option Tern)). reverse (map bit_letter bs)) (take_more bits k d lt)
      ∙ ap (λ (xs : List ℕ). reverse xs) (map-append bit_letter (take k bits) (get_or bits k d ∷ []))
      ∙ turned_more (map bit_letter (take k bits)) (bit_letter (get_or bits k d))
      ∙ ap (λ (c : ℕ). c ∷ front) (sym is) in
      ap (λ (xs : List ℕ). xs ++ front) new_is ∙ append_assoc old (b ∷ []) front
      ∙ ap (λ (xs : List ℕ). old ++ xs) (sym turned) ∙ h

  -- the digits below a place, the last one first
  abbrev pub digits_below : ℕ → List ℕ
  digits_below n = map (λ d. hexadecimal_digit (four_bits bits (d * 4))) (reverse (range_with_len 0 n))

  numbers_more : (k : ℕ) → range_with_len 0 (k + 1) ≡ range_with_len 0 k ++ k ∷ []
  numbers_more k =
      sym (same (range_with_len 0 (k + 1))) ∙ map-range_with_len_more (λ (n : ℕ). n) 0 k k (omega arith)
      ∙ ap (λ (ns : List ℕ). ns ++ k ∷ []) (same (range_with_len 0 k))
    where
      same : (ns : List ℕ) → map (λ (n : ℕ). n) ns ≡ ns
      same [] = refl
      same (n ∷ ns) = ap (λ (ms : List ℕ). n ∷ ms) (same ns)

  -- one digit more
  pub digits_more : (old new all : List ℕ) (k n b : ℕ) → n ≡ k + 1 → b ≡ hexadecimal_digit (four_bits bits (k * 4))
      → new ≡ old ++ b ∷ [] → old ++ digits_below n ≡ all → new ++ digits_below k ≡ all
  digits_more old new all k n b n_is is new_is h =
      let turned : digits_below n ≡ b ∷ digits_below k =
      ap digits_below n_is
      ∙ ap (λ (ns : List ℕ). map (λ d. hexadecimal_digit (four_bits bits (d * 4))) (reverse ns)) (numbers_more k)
      ∙ ap (map (λ d. hexadecimal_digit (four_bits bits (d * 4)))) (turned_more (range_with_len 0 k) k)
      ∙ ap (λ (c : ℕ). c ∷ digits_below k) (sym is) in
      ap (λ (xs : List ℕ). xs ++ digits_below k) new_is ∙ append_assoc old (b ∷ []) (digits_below k)
      ∙ ap (λ (xs : List ℕ). old ++ xs) (sym turned) ∙ h

  more_than_one : length bits ≢ 1 → (length bits == 1) ≡ false
  more_than_one h = ne_eqb (length bits) 1 h

  pub one_bit : length bits ≡ 1 → value_text bits ≡ binary bits
  unfolding value_text
  one_bit h =
      let one : (length bits == 1) ≡ true = eq-eqb (length bits) 1 h in
      rw one refl

  pub all_unknown : length bits ≢ 1 → list_all is_unknown bits ≡ true → value_text bits ≡ 120 ∷ []
  unfolding value_text
  all_unknown h u =
      let more : (length bits == 1) ≡ false = more_than_one h in
      rw (more, u) refl

  all_known : length bits ≢ 1 → list_all is_unknown bits ≡ false → list_all is_known bits ≡ true
      → value_text bits ≡ decimal (length bits) ++ (codes "'h" ++ hexadecimal bits)
  unfolding value_text
  all_known h u k =
      let more : (length bits == 1) ≡ false = more_than_one h in
      rw (more, u, k) refl

  some_known : length bits ≢ 1 → list_all is_unknown bits ≡ false → list_all is_known bits ≡ false
      → value_text bits ≡ decimal (length bits) ++ (codes "'b" ++ binary bits)
  unfolding value_text
  some_known h u k =
      let more : (length bits == 1) ≡ false = more_than_one h in
      rw (more, u, k) refl

  after_base : (old new base rest : List ℕ) → new ≡ old ++ (decimal (length bits) ++ base)
      → new ++ rest ≡ old ++ (decimal (length bits) ++ (base ++ rest))
  after_base old new base rest is =
      ap (λ (xs : List ℕ). xs ++ rest) is ∙ append_assoc old (decimal (length bits) ++ base) rest
      ∙ ap (λ (xs : List ℕ). old ++ xs) (append_assoc (decimal (length bits)) base rest)

  pub known_after : (old new : List ℕ) → length bits ≢ 1 → list_all is_unknown bits ≡ false → list_all is_known bits ≡ true
      → new ≡ old ++ (decimal (length bits) ++ (39 ∷ 104 ∷ [])) → new ++ hexadecimal bits ≡ old ++ value_text bits
  known_after old new h u k is =
      after_base old new (39 ∷ 104 ∷ []) (hexadecimal bits) is ∙ ap (λ (xs : List ℕ). old ++ xs) (sym (all_known h u k))

  pub some_known_after : (old new : List ℕ) → length bits ≢ 1 → list_all is_unknown bits ≡ false → list_all is_known bits ≡ false
      → new ≡ old ++ (decimal (length bits) ++ (39 ∷ 98 ∷ [])) → new ++ binary bits ≡ old ++ value_text bits
  some_known_after old new h u k is =
      after_base old new (39 ∷ 98 ∷ []) (binary bits) is ∙ ap (λ (xs : List ℕ). old ++ xs) (sym (some_known h u k))
