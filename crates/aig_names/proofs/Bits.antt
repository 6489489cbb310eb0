-- The bit that a name X[n] is.
use Rattle.std.proofs.Common.{◌≡◌, ◌≢◌, ℕ, ◌+◌, ◌-◌, ◌<◌, ◌≤◌, true, false, List, [], ◌∷◌, ◌++◌, length, take}
use Rattle.std.proofs.Common.{drop, get_or, Option, None, Some, All, refl, sym, ap, ◌∙◌, arith}
use Rattle.std.specs.Prelude.{◌==◌, ◌&&◌, option_map}
use Rattle.std.specs.Str.Parse.{digits_value}
use Rattle.std.proofs.lemmas.Bool.{and_left, and_right, ne_eqb}
use Rattle.std.proofs.lemmas.List.Elements.{All-head, All-tail}
use Rattle.std.proofs.lemmas.List.{take_rest}
use Rattle.aig_names.specs.Vectors.{is_index_end, bit_of}
use Rattle.aig_names.proofs.NextNames.{no_end, parted}

-- a byte before the bit
abbrev after : ℕ → Option (List ℕ × ℕ) → Option (List ℕ × ℕ)
after b o = option_map (λ (bit : List ℕ × ℕ). (b ∷ bit.0, bit.1)) o

-- without a bracket there is no bit
pub bit_none : (name : List ℕ) → All (λ b. b ≢ 91) name → bit_of name ≡ None
unfolding bit_of
bit_none [] h = refl
bit_none (b ∷ text) h =
    let other : (b == 91 && is_index_end text) ≡ false = and_left _ _ (ne_eqb b 91 (All-head (λ b. b ≢ 91) b text h)) in
    rw other (ap (after b) (bit_none text (All-tail (λ b. b ≢ 91) b text h)))

bit_after : (b : ℕ) (x tail : List ℕ) → bit_of (b ∷ (x ++ 91 ∷ tail)) ≡ after b (bit_of (x ++ 91 ∷ tail))
unfolding bit_of
bit_after b x tail = rw (and_right (b == 91) _ (no_end x tail)) refl

bit_some : (x tail : List ℕ) → is_index_end tail ≡ true
    → bit_of (x ++ 91 ∷ tail) ≡ Some (x, digits_value 10 (take (length tail - 1) tail))
unfolding bit_of
bit_some [] tail h = rw h refl
bit_some (b ∷ x) tail h = bit_after b x tail ∙ ap (after b) (bit_some x tail h)

bit_not : (x tail : List ℕ) → All (λ b. b ≢ 91) tail → is_index_end tail ≡ false → bit_of (x ++ 91 ∷ tail) ≡ None
unfolding bit_of
bit_not [] tail none h = rw h (ap (after 91) (bit_none tail none))
bit_not (b ∷ x) tail none h = bit_after b x tail ∙ ap (after b) (bit_not x tail none h)

-- the place after the last bracket
pub bit_at : (name rest digits : List ℕ) (k place : ℕ) → place ≡ k + 1 → place ≤ length name → get_or name k 0 ≡ 91
    → rest ≡ take (length name - place) (drop place name) → is_index_end rest ≡ true → digits ≡ take (length rest - 1) rest
    → bit_of name ≡ Some (take (place - 1) name, digits_value 10 digits)
bit_at name rest digits k place p le e r h d =
    let lt : k < length name = omega arith in
    let tail : List ℕ = drop (k + 1) name in
    let same : rest ≡ tail = r ∙ take_rest name place ∙ ap (λ (i : ℕ). drop i name) p in
    let number : digits_value 10 digits ≡ digits_value 10 (take (length tail - 1) tail) = ap (digits_value 10) (d ∙ ap (λ (t : List ℕ). take (length t - 1) t) same) in
    let front : take (place - 1) name ≡ take k name = ap (λ (i : ℕ). take i name) (omega (arith, p)) in
    ap bit_of (parted name k lt e) ∙ bit_some (take k name) tail (rw same at h)
    ∙ sym (λ i. Some (front i, number i))

pub bit_not_at : (name rest : List ℕ) (k place : ℕ) → place ≡ k + 1 → place ≤ length name → get_or name k 0 ≡ 91
    → All (λ b. b ≢ 91) (drop place name) → rest ≡ take (length name - place) (drop place name) → is_index_end rest ≡ false
    → bit_of name ≡ None
bit_not_at name rest k place p le e none r h =
    let same : rest ≡ drop (k + 1) name = r ∙ take_rest name place ∙ ap (λ (i : ℕ). drop i name) p in
    ap bit_of (parted name k (omega arith) e)
    ∙ bit_not (take k name) (drop (k + 1) name) (rw p at none) (rw same at h)
