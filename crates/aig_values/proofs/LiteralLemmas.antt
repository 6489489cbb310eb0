-- Rows of cells by literal.
use Rattle.std.proofs.Common.{◌≡◌, inl, inr, ℕ, zero, suc, ◌+◌, ◌-◌, ◌*◌, ◌/◌, ◌%◌, ◌^◌, ◌<◌, ◌≤◌, List, [], ◌∷◌}
use Rattle.std.proofs.Common.{length, map, fold, take, get_or, set, refl, sym, ap, ap₂, ◌∙◌, subst, arith}
use Rattle.std.specs.Prelude.{nat_eq, if◌then◌else◌}
use Rattle.std.proofs.lemmas.Bool.{cases_eq}
use Rattle.std.proofs.Math.Nat.{pow-le-pow_right}
use Rattle.std.proofs.lemmas.Nat.{pow-add}
use Rattle.std.proofs.lemmas.Nat.Bits.{bit_at_cat_low, bit_at_cat_high, bit_at_lowest, bit_at-suc}
use Rattle.std.proofs.lemmas.List.{get_or_default, get_or-set_same, get_or-set_other, ext_get_or}
use Rattle.std.specs.Int.{bit_at, rotate_right, w64}
use Rattle.std.specs.List.{range_with_len}
use Rattle.std.proofs.lemmas.List.FromFn.{get_or-map-range_with_len}
use Rattle.aig_parts.specs.declared.gate.Gate.{Gate}
use Rattle.aig_parts.specs.Literal.{variable}
use Rattle.aig_parts.specs.declared.ternary.Tern.{Tern}
use Rattle.aig_parts.specs.declared.ternary.Tern.TheVariants.{X}
use Rattle.aig_parts.specs.Ternary.{kleene_and, kleene_not}
use Rattle.aig_values.specs.Cells.{literal_value, gate_value, with_gate_value}
use Rattle.aig_values.specs.Codes.{bits_of, code_value, IsCode}
use Rattle.aig_values.specs.state.LiteralCodes.{by_literal, signed_value}
use Rattle.aig_values.specs.state.Words.{ones, zeros, bit_in, cell_in, spelled, value_of, value_in, group_value, one_of, zero_of, AreWhole}
use Rattle.aig_values.proofs.SweepLemmas.{row_more}
use Rattle.aig_values.proofs.WordBits.{value_back, bits_apart, one_small, zero_small, code_back, is_code_of, rotated_bit}
use Rattle.aig_values.proofs.MemoryBits.{bit_of, one_there, zero_there}
use Rattle.aig_values.proofs.WordLemmas.{spelled_at, length-spelled, spelled_row, are_whole}

pub length-by_literal : (row : List Tern) → length (by_literal row) ≡ 2 * length row
unfolding by_literal
length-by_literal [] = refl
length-by_literal (x ∷ row) = omega (arith, length-by_literal row)

pub even_code : (row : List Tern) (v l : ℕ) → l ≡ 2 * v → get_or (by_literal row) l X ≡ get_or row v X
unfolding by_literal
even_code [] v l e = refl
even_code (x ∷ row) zero l e =
    let first : l ≡ 0 = omega arith in ap (λ (i : ℕ). get_or (x ∷ kleene_not x ∷ by_literal row) i X) first
even_code (x ∷ row) (suc v) l e =
    let later : l ≡ suc (suc (2 * v)) = omega arith in
    ap (λ (i : ℕ). get_or (x ∷ kleene_not x ∷ by_literal row) i X) later ∙ even_code row v (2 * v) refl

pub odd_code : (row : List Tern) (v l : ℕ) → l ≡ 2 * v + 1 → get_or (by_literal row) l X ≡ kleene_not (get_or row v X)
unfolding by_literal
odd_code [] v l e = refl
odd_code (x ∷ row) zero l e =
    let second : l ≡ 1 = omega arith in ap (λ (i : ℕ). get_or (x ∷ kleene_not x ∷ by_literal row) i X) second
odd_code (x ∷ row) (suc v) l e =
    let later : l ≡ suc (suc (2 * v + 1)) = omega arith in
    ap (λ (i : ℕ). get_or (x ∷ kleene_not x ∷ by_literal row) i X) later ∙ odd_code row v (2 * v + 1) refl

-- the code of a literal
pub literal_code : (row : List Tern) (l : ℕ) → get_or (by_literal row) l X ≡ literal_value row l
literal_code row l = elim (cases_eq (l % 2) 0) [
  | inl e ↦ rw e (even_code row (l / 2) l (omega arith))
  | inr ne ↦
      let one : l % 2 ≡ 1 = omega arith in
      rw one (odd_code row (l / 2) l (omega arith))
]

-- the codes after a variable got another value
pub set_codes : (row : List Tern) (v l m : ℕ) (x : Tern) → l ≡ 2 * v → m ≡ 2 * v + 1
    → set (set (by_literal row) l x) m (kleene_not x) ≡ by_literal (set row v x)
unfolding by_literal
set_codes [] v l m x e e' = refl
set_codes (y ∷ row) zero l m x e e' =
    let first : l ≡ 0 = omega arith in
    let second : m ≡ 1 = omega arith in
    rw (first, second) refl
set_codes (y ∷ row) (suc v) l m x e e' =
    let first : l ≡ suc (suc (2 * v)) = omega arith in
    let second : m ≡ suc (suc (2 * v + 1)) = omega arith in
    rw (first, second) (ap (λ (codes : List Tern). y ∷ kleene_not y ∷ codes) (set_codes row v (2 * v) (2 * v + 1) x refl refl))

-- the code that is read of a literal
pub code_read : (codes row : List Tern) (l : ℕ) (x : Tern) → codes ≡ by_literal row → l < length codes → x ≡ get_or codes l x
    → x ≡ literal_value row l
code_read codes row l x e lt is =
    is ∙ get_or_default codes l x X lt ∙ ap (λ (cs : List Tern). get_or cs l X) e ∙ literal_code row l

-- the codes after one gate more
pub codes_after : (row codes : List Tern) (gates : List Gate) (i : ℕ) (g : Gate) (v : ℕ) (x y z : Tern) → i < length gates
    → g ≡ get_or gates i g → codes ≡ by_literal (fold with_gate_value row (take i gates)) → g.rhs0 < length codes
    → g.rhs1 < length codes → y ≡ get_or codes g.rhs0 y → z ≡ get_or codes g.rhs1 z → v ≡ variable g.lhs → x ≡ kleene_and y z
    → set (set codes (2 * v) x) (2 * v + 1) (kleene_not x) ≡ by_literal (fold with_gate_value row (take (i + 1) gates))
codes_after row codes gates i g v x y z lt is e lt0 lt1 y_is z_is v_is x_is =
    let now : List Tern = fold with_gate_value row (take i gates) in
    let value : x ≡ gate_value now g =
    x_is ∙ ap₂ kleene_and (code_read codes now g.rhs0 y e lt0 y_is) (code_read codes now g.rhs1 z e lt1 z_is) in
    ap (λ (cs : List Tern). set (set cs (2 * v) x) (2 * v + 1) (kleene_not x)) e
    ∙ set_codes now v (2 * v) (2 * v + 1) x refl refl
    ∙ ap by_literal (ap₂ (set now) v_is value ∙ row_more row gates i g lt is)

-- the values of literals of cells with the same value
pub signed_same : (x y : Tern) (l m : ℕ) → x ≡ y → l % 2 ≡ m % 2 → signed_value x l ≡ signed_value y m
signed_same x y l m e sign = ap₂ (λ (z : Tern) (r : ℕ). if nat_eq r 0 then z else kleene_not z) e sign

pub signed_unknown : (l : ℕ) → signed_value X l ≡ X
signed_unknown l = elim (cases_eq (l % 2) 0) [
  | inl e ↦ rw e refl
  | inr ne ↦
      let one : l % 2 ≡ 1 = omega arith in
      rw one refl
]

-- a table of the codes of four cells, by four bits of ones and four of zeros
unfoldable pub codes_of_groups : List ℕ
codes_of_groups = map (λ (n : ℕ). bits_of (signed_value (group_value (n / 8) (n % 8 / 2)) (n % 8))) (range_with_len 0 2048)

module _ (table : List ℕ) (group place i : ℕ) (is : table ≡ codes_of_groups) (small : group < 256) (lt : place < 8)
    (at : i ≡ 8 * group + place) where
  group_bits : get_or table i 0 ≡ bits_of (signed_value (group_value group (place / 2)) place)
  unfolding codes_of_groups
  group_bits =
      let g : i / 8 ≡ group = omega arith in
      let p : i % 8 ≡ place = omega arith in
      ap (λ (xs : List ℕ). get_or xs i 0) is
      ∙ get_or-map-range_with_len (λ (n : ℕ). bits_of (signed_value (group_value (n / 8) (n % 8 / 2)) (n % 8))) 0 2048 i i 0
      (omega arith) (omega arith)
      ∙ ap₂ (λ (a b : ℕ). bits_of (signed_value (group_value a (b / 2)) b)) g p

  pub group_is_code : IsCode (get_or table i 0)
  group_is_code = subst IsCode (sym group_bits) (is_code_of (signed_value (group_value group (place / 2)) place))

  pub group_code : code_value (get_or table i 0) ≡ signed_value (group_value group (place / 2)) place
  group_code = ap code_value group_bits ∙ code_back (signed_value (group_value group (place / 2)) place)

-- the codes of a row
pub all_codes : (words : List ℕ) (codes : List Tern) → length codes ≡ 64 * length words
    → ((l : ℕ) → l < 64 * length words → get_or codes l X ≡ literal_value (spelled words) l) → codes ≡ by_literal (spelled words)
all_codes words codes size each =
    ext_get_or X codes (by_literal (spelled words))
    (omega (arith, size, length-by_literal (spelled words), length-spelled words)) (λ l lt.
    each l (omega arith) ∙ sym (literal_code (spelled words) l))

-- the literals of the cells of a word
pub word_literal : (words : List ℕ) (place bits k l : ℕ) → place < length words → k < 64 → l ≡ 64 * place + k
    → ((j : ℕ) → 32 * place % 32 + j < 32 → bit_at bits j ≡ bit_in (ones words) (32 * place + j))
    → ((j : ℕ) → 32 * place % 32 + j < 32 → bit_at bits (32 + j) ≡ bit_in (zeros words) (32 * place + j))
    → signed_value (value_in bits (k / 2)) k ≡ literal_value (spelled words) l
word_literal words place bits k l lt small is first second =
    let near : 32 * place % 32 + k / 2 < 32 = omega arith in
    let v : 32 * place + k / 2 ≡ l / 2 = omega arith in
    signed_same (value_in bits (k / 2)) (get_or (spelled words) (l / 2) X) k l
    (ap₂ value_of (first (k / 2) near) (second (k / 2) near) ∙ ap (cell_in (ones words) (zeros words)) v
    ∙ sym (spelled_at words (l / 2) (omega arith))) (omega arith)

-- bits of some cells that were put together from the last one on
pub record ArePacked (codes : List Tern) (from place word : ℕ) : Type 0 where
  pub first : ℕ
  pub second : ℕ
  pub is : word ≡ second * 2 ^ 32 + first
  pub first_fits : first < 2 ^ place
  pub second_fits : second < 2 ^ place
  pub of_one : (k : ℕ) → k < place → bit_at first k ≡ one_of (get_or codes (from + 2 * (32 - place + k)) X)
  pub of_zero : (k : ℕ) → k < place → bit_at second k ≡ zero_of (get_or codes (from + 2 * (32 - place + k)) X)

-- a bit more before the others
module _ (f : Tern → ℕ) (small : (x : Tern) → f x < 2) (codes : List Tern) (from place bits : ℕ) (x : Tern) (lt : place < 32)
    (room : from + 64 ≤ length codes) (is : x ≡ get_or codes (from + 2 * (31 - place)) x)
    (before : (k : ℕ) → k < place → bit_at bits k ≡ f (get_or codes (from + 2 * (32 - place + k)) X)) where
  pub bit_before : (k : ℕ) → k < place + 1
      → bit_at (2 * bits + f x) k ≡ f (get_or codes (from + 2 * (32 - (place + 1) + k)) X)
  bit_before zero below =
      let i : from + 2 * (31 - place) ≡ from + 2 * (32 - (place + 1) + 0) = omega arith in
      let low : (2 * bits + f x) % 2 ≡ f x = omega (arith, small x) in
      bit_at_lowest (2 * bits + f x) ∙ low
      ∙ ap f (is ∙ get_or_default codes (from + 2 * (31 - place)) x X (omega arith) ∙ ap (λ (j : ℕ). get_or codes j X) i)
  bit_before (suc k) below =
      let i : from + 2 * (32 - place + k) ≡ from + 2 * (32 - (place + 1) + suc k) = omega arith in
      let half : (2 * bits + f x) / 2 ≡ bits = omega (arith, small x) in
      bit_at-suc (2 * bits + f x) k ∙ ap (λ (n : ℕ). bit_at n k) half ∙ before k (omega arith)
      ∙ ap (λ (j : ℕ). f (get_or codes j X)) i

twice : (k : ℕ) → 2 ^ (k + 1) ≡ 2 * 2 ^ k
twice k = pow-add 2 k 1 ∙ omega arith

pub none_packed : (codes : List Tern) (from : ℕ) → ArePacked codes from 0 0
none_packed codes from = record {
  first = 0;
  second = 0;
  is = refl;
  first_fits = omega arith;
  second_fits = omega arith;
  of_one = λ k lt. absurd (omega arith);
  of_zero = λ k lt. absurd (omega arith);
}

pub twice_fits : (codes : List Tern) (from place word : ℕ) → place < 32 → ArePacked codes from place word
    → 2 * word + 4294967297 < 18446744073709551616
twice_fits codes from place word lt h =
    let most : 2 ^ place ≤ 2147483648 = pow-le-pow_right {n = 2} (omega arith) {i = place} {j = 31} (omega arith) in
    let first : ℕ = h.first in
    let second : ℕ = h.second in
    let word_is : word ≡ second * 4294967296 + first = h.is in
    let first_fits : first < 2147483648 = omega (arith, h.first_fits) in
    let second_fits : second < 2147483648 = omega (arith, h.second_fits) in
    omega arith

module _ (codes : List Tern) (from place word : ℕ) (x : Tern) (lt : place < 32) (room : from + 64 ≤ length codes)
    (is : x ≡ get_or codes (from + 2 * (31 - place)) x) (h : ArePacked codes from place word) (bits : ℕ)
    (bits_is : bits ≡ zero_of x * 2 ^ 32 + one_of x) where
  pub packed_fits : 2 * word + bits < 18446744073709551616
  packed_fits = omega (arith, bits_is, one_small x, zero_small x, twice_fits codes from place word lt h)

  pub packed_more : ArePacked codes from (place + 1) (2 * word + bits)
  packed_more = record {
    first = 2 * h.first + one_of x;
    second = 2 * h.second + zero_of x;
    is = omega (arith, h.is, bits_is);
    first_fits = omega (arith, h.first_fits, one_small x, twice place);
    second_fits = omega (arith, h.second_fits, zero_small x, twice place);
    of_one = bit_before one_of one_small codes from place h.first x lt room is h.of_one;
    of_zero = bit_before zero_of zero_small codes from place h.second x lt room is h.of_zero;
  }

module _ (codes : List Tern) (from place word : ℕ) (all : place ≡ 32) (h : ArePacked codes from place word) (k : ℕ) (lt : k < 32)
  where
    index_is : from + 2 * (32 - place + k) ≡ from + 2 * k
    index_is = omega arith

    first_fits : h.first < 2 ^ 32
    first_fits = subst (λ (n : ℕ). h.first < 2 ^ n) all h.first_fits

    pub packed_one : bit_at word k ≡ one_of (get_or codes (from + 2 * k) X)
    packed_one =
        ap (λ (n : ℕ). bit_at n k) h.is ∙ bit_at_cat_low h.second 32 h.first k lt ∙ h.of_one k (omega arith)
        ∙ ap (λ (j : ℕ). one_of (get_or codes j X)) index_is

    pub packed_zero : bit_at word (32 + k) ≡ zero_of (get_or codes (from + 2 * k) X)
    packed_zero =
        let back : 32 + k - 32 ≡ k = omega arith in
        ap (λ (n : ℕ). bit_at n (32 + k)) h.is ∙ bit_at_cat_high h.second 32 h.first (32 + k) first_fits (omega arith)
        ∙ ap (bit_at h.second) back ∙ h.of_zero k (omega arith) ∙ ap (λ (j : ℕ). zero_of (get_or codes j X)) index_is

-- the cells of the words that were packed so far are those of the codes
pub record HaveCells (words : List ℕ) (codes : List Tern) (n : ℕ) : Type 0 where
  pub of_one : (v : ℕ) → v < 32 * n → bit_of 0 words v ≡ one_of (get_or codes (2 * v) X)
  pub of_zero : (v : ℕ) → v < 32 * n → bit_of 32 words v ≡ zero_of (get_or codes (2 * v) X)

-- one word more
module _ (words : List ℕ) (codes : List Tern) (n word by : ℕ) (lt : n < length words) (fits : word < 2 ^ 64)
    (by_is : by ≡ 32 * (n % 2)) where
  abbrev turned : ℕ
  turned = rotate_right w64 word by

  side_more : (f : Tern → ℕ) (side : ℕ) → side % 32 ≡ 0 → side < 64
      → ((k : ℕ) → k < 32 → bit_at word (side + k) ≡ f (get_or codes (64 * n + 2 * k) X))
      → ((v : ℕ) → v < 32 * n → bit_of side words v ≡ f (get_or codes (2 * v) X))
      → (v : ℕ) → v < 32 * (n + 1) → bit_of side (set words n turned) v ≡ f (get_or codes (2 * v) X)
  side_more f side whole small are before v below = elim (cases_eq (v / 32) n) [
    | inl e ↦
        let k : ℕ = v - 32 * n in
        let i : 64 * n + 2 * k ≡ 2 * v = omega arith in
        let place : ℕ = (v + side) % 64 in
        ap (λ (j : ℕ). bit_at (get_or (set words n turned) j 0) place) e
        ∙ ap (λ (m : ℕ). bit_at m place) (get_or-set_same words n turned 0 lt)
        ∙ rotated_bit word by place (side + k) fits (omega arith) (omega arith) ∙ are k (omega arith)
        ∙ ap (λ (j : ℕ). f (get_or codes j X)) i
    | inr ne ↦
        ap (λ (m : ℕ). bit_at m ((v + side) % 64)) (get_or-set_other words n (v / 32) turned 0 ne) ∙ before v (omega arith)
  ]

  pub cells_more : HaveCells words codes n → ((k : ℕ) → k < 32 → bit_at word k ≡ one_of (get_or codes (64 * n + 2 * k) X))
      → ((k : ℕ) → k < 32 → bit_at word (32 + k) ≡ zero_of (get_or codes (64 * n + 2 * k) X))
      → HaveCells (set words n turned) codes (n + 1)
  cells_more h first second = record {
    of_one = side_more one_of 0 refl (omega arith)
        (λ k small. let same : 0 + k ≡ k = omega arith in ap (bit_at word) same ∙ first k small) h.of_one;
    of_zero = side_more zero_of 32 refl (omega arith) second h.of_zero;
  }

module _ (words : List ℕ) (codes : List Tern) (n : ℕ) (h : HaveCells words codes n) (all : length words ≤ n) where
  pub packed_whole : AreWhole words
  packed_whole = are_whole words (λ v lt.
      omega (
        arith,
        one_there words v lt,
        zero_there words v lt,
        h.of_one v (omega arith),
        h.of_zero v (omega arith),
        bits_apart (get_or codes (2 * v) X),
      ))

  pub packed_row : (row : List Tern) → length codes ≡ 64 * length words → codes ≡ by_literal row → spelled words ≡ row
  packed_row row size e =
      spelled_row words row (omega (arith, length-by_literal row, ap length e, size)) (λ v lt.
      ap₂ value_of (one_there words v lt ∙ h.of_one v (omega arith)) (zero_there words v lt ∙ h.of_zero v (omega arith))
      ∙ value_back (get_or codes (2 * v) X) ∙ ap (λ (cs : List Tern). get_or cs (2 * v) X) e ∙ even_code row v (2 * v) refl)
