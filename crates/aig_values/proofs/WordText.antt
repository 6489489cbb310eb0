-- Lists that are filled piece by piece, and the characters of cells.
use Rattle.std.proofs.Common.{◌≡◌, inl, inr, ℕ, ◌+◌, ◌-◌, ◌*◌, ◌/◌, ◌%◌, ◌<◌, ◌≤◌, List, [], length, map, take, replicate}
use Rattle.std.proofs.Common.{get_or, set, refl, sym, ap, ap₂, ◌++◌, zero-le, ◌∙◌, below_more, get_or-set_other, get_or-set_same}
use Rattle.std.proofs.Common.{arith}
use Rattle.std.specs.List.{range_with_len}
use Rattle.std.proofs.lemmas.Bool.{cases_lt}
use Rattle.std.proofs.lemmas.List.{length-set, take_all}
use Rattle.std.proofs.lemmas.List.FromFn.{get_or-map-range_with_len}
use Rattle.aig_values.specs.Characters.{character}
use Rattle.aig_values.specs.state.Words.{group_value}

-- a list that is filled from a place on, with one more item
pub filled_more : {A : Type 0} (d : A) (f : ℕ → A) (xs : List A) (first n i : ℕ) (x : A) → i ≡ first + n → i < length xs
    → x ≡ f n → ((k : ℕ) → k < n → get_or xs (first + k) d ≡ f k) → (k : ℕ) → k < n + 1
    → get_or (set xs i x) (first + k) d ≡ f k
filled_more d f xs first n i x e lt is before =
    below_more (λ k. get_or (set xs i x) (first + k) d ≡ f k) n
    (λ k below. get_or-set_other xs i (first + k) x d (λ same. omega arith) ∙ before k below)
    (ap (λ (j : ℕ). get_or (set xs i x) j d) (sym e) ∙ get_or-set_same xs i x d lt ∙ is)

-- with a piece more
pub piece_more : {A : Type 0} (d : A) (f : ℕ → A) (xs ys : List A) (first n count at m : ℕ) → at ≡ first + n → m ≡ n + count
    → ((k : ℕ) → k < n → get_or xs (first + k) d ≡ f k) → ((k : ℕ) → k < count → get_or ys (at + k) d ≡ f (n + k))
    → ((k : ℕ) → k < at → get_or ys k d ≡ get_or xs k d) → (k : ℕ) → k < m → get_or ys (first + k) d ≡ f k
piece_more d f xs ys first n count at m e sum before there same k lt = elim (cases_lt k n) [
  | inl below ↦ same (first + k) (omega arith) ∙ before k below
  | inr above ↦
      let j : ℕ = k - n in
      let place : first + k ≡ at + j = omega arith in
      let back : n + j ≡ k = omega arith in
      ap (λ (i : ℕ). get_or ys i d) place ∙ there j (omega arith) ∙ ap f back
]

pub piece_next : {A : Type 0} (d : A) (f : ℕ → A) (xs ys : List A) (n count m : ℕ) → m ≡ n + count
    → ((k : ℕ) → k < n → get_or xs k d ≡ f k) → ((k : ℕ) → k < count → get_or ys (n + k) d ≡ f (n + k))
    → ((k : ℕ) → k < n → get_or ys k d ≡ get_or xs k d) → (k : ℕ) → k < m → get_or ys k d ≡ f k
piece_next d f xs ys n count m sum before there same k lt = elim (cases_lt k n) [
  | inl below ↦ same k below ∙ before k below
  | inr above ↦
      let j : ℕ = k - n in
      let back : n + j ≡ k = omega arith in
      ap (λ (i : ℕ). get_or ys i d) (sym back) ∙ there j (omega arith) ∙ ap f back
]

-- an empty list made longer
pub made_longer : {A : Type 0} (xs ys : List A) (k n : ℕ) (y : A) → ys ≡ [] → n ≡ 0
    → xs ≡ take k ys ++ replicate (k - n) y → xs ≡ replicate k y
made_longer xs ys k n y none n_zero is =
    let same : k - n ≡ k = omega arith in
    rw (none, take_all k [] zero-le, same) at is

-- a table of the characters of four cells, by four bits of ones and four of zeros
unfoldable pub characters_of_groups : List ℕ
characters_of_groups = map (λ (v : ℕ). character (group_value (v / 4) (v % 4))) (range_with_len 0 1024)

pub group_character : (table : List ℕ) (group k i : ℕ) → table ≡ characters_of_groups → group < 256 → k < 4
    → i ≡ 4 * group + k → get_or table i 0 ≡ character (group_value group k)
unfolding characters_of_groups
group_character table group k i is small lt at =
    let g : i / 4 ≡ group = omega arith in
    let p : i % 4 ≡ k = omega arith in
    ap (λ (xs : List ℕ). get_or xs i 0) is
    ∙ get_or-map-range_with_len (λ (v : ℕ). character (group_value (v / 4) (v % 4))) 0 1024 i i 0 (omega arith) (omega arith)
    ∙ ap₂ (λ (a b : ℕ). character (group_value a b)) g p

-- four characters from a place on
module _ (text : List ℕ) (at a b c d : ℕ) (room : at + 4 ≤ length text) where
  pub four_there : (f : ℕ → ℕ) → a ≡ f 0 → b ≡ f 1 → c ≡ f 2 → d ≡ f 3 → (k : ℕ) → k < 4
      → get_or (set (set (set (set text at a) (at + 1) b) (at + 2) c) (at + 3) d) (at + k) 0 ≡ f k
  four_there f a_is b_is c_is d_is =
      let n1 = length-set text at a in
      let n2 = length-set (set text at a) (at + 1) b in
      let n3 = length-set (set (set text at a) (at + 1) b) (at + 2) c in
      filled_more 0 f (set (set (set text at a) (at + 1) b) (at + 2) c) at 3 (at + 3) d refl (omega (arith, n1, n2, n3)) d_is
      (filled_more 0 f (set (set text at a) (at + 1) b) at 2 (at + 2) c refl (omega (arith, n1, n2)) c_is
      (filled_more 0 f (set text at a) at 1 (at + 1) b refl (omega (arith, n1)) b_is
      (filled_more 0 f text at 0 at a (omega arith) (omega arith) a_is (λ k lt. absurd (omega arith)))))
