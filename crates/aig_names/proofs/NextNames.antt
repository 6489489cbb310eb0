-- The name after X[n].
use Rattle.std.proofs.Common.{◌≡◌, ◌≢◌, ℕ, suc, ◌+◌, ◌-◌, ◌<◌, ◌≤◌, true, false, List, [], ◌∷◌, ◌++◌, length, take}
use Rattle.std.proofs.Common.{drop, get_or, All, refl, sym, ap, ◌∙◌, arith, append_assoc, length-append}
use Rattle.std.specs.Prelude.{decimal, ◌==◌, ◌&&◌}
use Rattle.std.specs.Str.{all_ascii_digits}
use Rattle.std.specs.Str.Parse.{digits_value}
use Rattle.std.proofs.Math.Seq.{get_or-append_seam}
use Rattle.std.proofs.lemmas.Bool.{and_parts, and_left, and_right, eqb-true, ne_eqb, false_from_ne_true}
use Rattle.std.proofs.lemmas.List.{take-append-drop, drop_more, take_more, length-take}
use Rattle.std.proofs.lemmas.List.{get_or-take, take_rest}
use Rattle.std.proofs.lemmas.List.Elements.{All-head, All-tail}
use Rattle.aig_names.specs.Vectors.{is_index_end, next_name, put_before}
use Rattle.aig_names.proofs.Indices.{index_parts, digit_is}

-- what ends an index holds no bracket
bracket_left : (x tail : List ℕ) → is_index_end (x ++ 91 ∷ tail) ≡ true → ⊥
bracket_left x tail h =
    let text : List ℕ = x ++ 91 ∷ tail in
    let parts = and_parts _ _ h in
    let digits = index_parts (take (length text - 1) text) parts.0 in
    let len : length text ≡ length x + suc (length tail) = length-append x (91 ∷ tail) in
    at tail digits.0 (eqb-true _ _ parts.1) len
  where
    last : (x : List ℕ) → get_or (x ++ 91 ∷ []) (length x) 0 ≡ 91
    last x = get_or-append_seam x 91 [] 0

    at : (tail : List ℕ) → all_ascii_digits (take (length (x ++ 91 ∷ tail) - 1) (x ++ 91 ∷ tail)) ≡ true
        → get_or (x ++ 91 ∷ tail) (length (x ++ 91 ∷ tail) - 1) 0 ≡ 93
        → length (x ++ 91 ∷ tail) ≡ length x + suc (length tail) → ⊥
    at [] digits end len =
        let same : length (x ++ 91 ∷ []) - 1 ≡ length x = omega (arith, len) in
        let e : 93 ≡ 91 = sym end ∙ ap (λ (n : ℕ). get_or (x ++ 91 ∷ []) n 0) same ∙ last x in
        absurd (omega (arith, e))
    at (b ∷ tail) digits end len =
        let text : List ℕ = x ++ 91 ∷ (b ∷ tail) in
        let lt : length x < length text - 1 = omega (arith, len) in
        let in_take : length x < length (take (length text - 1) text) = omega (arith, lt, length-take (length text - 1) text) in
        let range = digit_is (take (length text - 1) text) (length x) digits in_take in
        let is : get_or (take (length text - 1) text) (length x) 0 ≡ 91 =
        get_or-take (length text - 1) text (length x) 0 lt ∙ get_or-append_seam x 91 (b ∷ tail) 0 in
        absurd (omega (arith, is, range.1))

pub no_end : (x tail : List ℕ) → is_index_end (x ++ 91 ∷ tail) ≡ false
no_end x tail = false_from_ne_true _ (bracket_left x tail)

-- without a bracket there is no next name
pub next_none : (name : List ℕ) → All (λ b. b ≢ 91) name → next_name name ≡ []
unfolding next_name
next_none [] h = refl
next_none (b ∷ text) h =
    let other : (b == 91 && is_index_end text) ≡ false = and_left _ _ (ne_eqb b 91 (All-head (λ b. b ≢ 91) b text h)) in
    rw other (ap (put_before b) (next_none text (All-tail (λ b. b ≢ 91) b text h)))

next_after : (b : ℕ) (x tail : List ℕ) → next_name (b ∷ (x ++ 91 ∷ tail)) ≡ put_before b (next_name (x ++ 91 ∷ tail))
unfolding next_name
next_after b x tail = rw (and_right (b == 91) _ (no_end x tail)) refl

put_first : (b : ℕ) (x rest : List ℕ) → put_before b (x ++ 91 ∷ rest) ≡ b ∷ (x ++ 91 ∷ rest)
put_first b [] rest = refl
put_first b (c ∷ x) rest = refl

next_some : (x tail : List ℕ) → is_index_end tail ≡ true
    → next_name (x ++ 91 ∷ tail) ≡ x ++ 91 ∷ (decimal (digits_value 10 (take (length tail - 1) tail) + 1) ++ 93 ∷ [])
unfolding next_name
next_some [] tail h = rw h refl
next_some (b ∷ x) tail h =
    next_after b x tail ∙ ap (put_before b) (next_some x tail h)
    ∙ put_first b x (decimal (digits_value 10 (take (length tail - 1) tail) + 1) ++ 93 ∷ [])

next_not : (x tail : List ℕ) → All (λ b. b ≢ 91) tail → is_index_end tail ≡ false → next_name (x ++ 91 ∷ tail) ≡ []
unfolding next_name
next_not [] tail none h = rw h (ap (put_before 91) (next_none tail none))
next_not (b ∷ x) tail none h = next_after b x tail ∙ ap (put_before b) (next_not x tail none h)

pub parted : (name : List ℕ) (k : ℕ) → k < length name → get_or name k 0 ≡ 91 → name ≡ take k name ++ 91 ∷ drop (k + 1) name
parted name k lt e =
    sym (take-append-drop k name) ∙ ap (λ (t : List ℕ). take k name ++ t) (drop_more name k 0 lt)
    ∙ ap (λ (b : ℕ). take k name ++ b ∷ drop (k + 1) name) e

-- the place after the last bracket
pub next_at : (name rest digits : List ℕ) (k place : ℕ) → place ≡ k + 1 → place ≤ length name → get_or name k 0 ≡ 91
    → rest ≡ take (length name - place) (drop place name) → is_index_end rest ≡ true → digits ≡ take (length rest - 1) rest
    → next_name name ≡ (take place name ++ decimal (digits_value 10 digits + 1)) ++ 93 ∷ []
next_at name rest digits k place p le e r h d =
    let lt : k < length name = omega arith in
    let tail : List ℕ = drop (k + 1) name in
    let n : List ℕ = decimal (digits_value 10 (take (length tail - 1) tail) + 1) in
    let same : rest ≡ tail = r ∙ take_rest name place ∙ ap (λ (i : ℕ). drop i name) p in
    let number : digits_value 10 digits ≡ digits_value 10 (take (length tail - 1) tail) = ap (digits_value 10) (d ∙ ap (λ (t : List ℕ). take (length t - 1) t) same) in
    let front : take place name ≡ take k name ++ 91 ∷ [] =
    ap (λ (i : ℕ). take i name) p ∙ take_more name k 0 lt ∙ ap (λ (b : ℕ). take k name ++ b ∷ []) e in
    ap next_name (parted name k lt e) ∙ next_some (take k name) tail (rw same at h)
    ∙ sym (ap (λ (m : ℕ). (take place name ++ decimal (m + 1)) ++ 93 ∷ []) number
    ∙ ap (λ (t : List ℕ). (t ++ n) ++ 93 ∷ []) front
    ∙ ap (λ (t : List ℕ). t ++ 93 ∷ []) (append_assoc (take k name) (91 ∷ []) n)
    ∙ append_assoc (take k name) (91 ∷ n) (93 ∷ []))

pub next_not_at : (name rest : List ℕ) (k place : ℕ) → place ≡ k + 1 → place ≤ length name → get_or name k 0 ≡ 91
    → All (λ b. b ≢ 91) (drop place name) → rest ≡ take (length name - place) (drop place name) → is_index_end rest ≡ false
    → next_name name ≡ []
next_not_at name rest k place p le e none r h =
    let same : rest ≡ drop (k + 1) name = r ∙ take_rest name place ∙ ap (λ (i : ℕ). drop i name) p in
    ap next_name (parted name k (omega arith) e)
    ∙ next_not (take k name) (drop (k + 1) name) (rw p at none) (rw same at h)
