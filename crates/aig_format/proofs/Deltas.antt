-- A delta that is read is spelled so, and what is spelled so is read.
use Rattle.std.proofs.Common.{◌≡◌, ℕ, zero, suc, ◌+◌, ◌-◌, ◌*◌, ◌/◌, ◌%◌, ◌^◌, ◌<◌, ◌≤◌, Bool, true, false, cond, ltb}
use Rattle.std.proofs.Common.{eqb, ◌||◌, ◌&&◌, Some, None, List, [], ◌∷◌, ◌++◌, length, Ok, Err, refl, sym, ap, subst}
use Rattle.std.proofs.Common.{◌∙◌}
use Rattle.std.proofs.Common.{arith}
use Rattle.std.proofs.lemmas.Bool.{ltb-true, ltb-false, lt-ltb, le-ltb}
use Rattle.std.proofs.lemmas.Bool.Decides.{nat_tests}
use Rattle.aig_format.specs.state.Reading.{Read, text, ◌>>=◌, next_at, groups_at, delta_at}
use Rattle.aig_format.specs.Delta.{groups, delta}
use Rattle.aig_format.proofs.Steps.{done, done_is}
use Rattle.aig_format.proofs.Numbers.{bind_then}
use Rattle.std.proofs.lemmas.Nat.{mul-le}
use Rattle.std.specs.Int.{w32, to_le_bytes}

pub pow_more : (k : ℕ) → 128 ^ suc (suc k) ≡ 128 * 128 ^ suc k
pow_more k = grind arith

positive : (k : ℕ) → 128 ≤ 128 ^ suc k
positive zero = omega arith
positive (suc k) = omega (arith, pow_more k, positive k)

pub one_group : (k n : ℕ) → n < 128 → groups k n ≡ n ∷ []
unfolding groups
one_group zero n lt = refl
one_group (suc k) n lt = rw (lt-ltb n 128 lt) refl

pub more_groups : (k n : ℕ) → 128 ≤ n → groups (suc k) n ≡ (128 + n % 128) ∷ groups k (n / 128)
unfolding groups
more_groups k n le = rw (le-ltb n 128 le) refl

-- a number that fits is spelled the same with room for one group more
fits_more : (k n : ℕ) → n < 128 ^ suc k → groups k n ≡ groups (suc k) n
fits_more zero n lt = let one : n < 128 = omega arith in one_group 0 n one ∙ sym (one_group 1 n one)
fits_more (suc k) n lt = by_size (λ m fits. fits_more k m fits) (ltb n 128) refl
  where
    by_size : ((m : ℕ) → m < 128 ^ suc k → groups k m ≡ groups (suc k) m) → (b : Bool) → ltb n 128 ≡ b
        → groups (suc k) n ≡ groups (suc (suc k)) n
    by_size again true e = let one = ltb-true n 128 e in one_group (suc k) n one ∙ sym (one_group (suc (suc k)) n one)
    by_size again false e = let le =
        ltb-false n 128 e in more_groups k n le
        ∙ ap (λ (t : List ℕ). (128 + n % 128) ∷ t) (again (n / 128) (omega (arith, pow_more k)))
        ∙ sym (more_groups (suc k) n le)

pub delta_small : (n : ℕ) → n < 128 → delta n ≡ n ∷ []
unfolding delta
delta_small n lt = one_group 3 n lt

pub delta_large : (n : ℕ) → 128 ≤ n → n < 2 ^ 28 → delta n ≡ (128 + n % 128) ∷ delta (n / 128)
unfolding delta
delta_large n le lt =
    more_groups 2 n le ∙ ap (λ (t : List ℕ). (128 + n % 128) ∷ t) (fits_more 2 (n / 128) (omega arith))

-- one group more
pub delta_more : (n : ℕ) (rest : List ℕ) → 128 ≤ n → n < 2 ^ 28 → delta (n / 128) ≡ rest → delta n ≡ (128 + n % 128) ∷ rest
delta_more n rest le lt h = delta_large n le lt ∙ ap (λ (t : List ℕ). (128 + n % 128) ∷ t) h

-- four groups in one word
pub word_bytes : (w a b c d : ℕ) → w ≡ a + 256 * b + 65536 * c + 16777216 * d → a < 256 → b < 256 → c < 256 → d < 256
    → to_le_bytes w32 w ≡ a ∷ b ∷ c ∷ d ∷ []
word_bytes w a b c d e la lb lc ld =
    let first : w % 256 ≡ a = omega (arith, e, la) in
    let second : w / 256 % 256 ≡ b = omega (arith, e, la, lb) in
    let third : w / 65536 % 256 ≡ c = omega (arith, e, la, lb, lc) in
    let fourth : w / 16777216 % 256 ≡ d = omega (arith, e, la, lb, lc, ld) in
    λ i. first i ∷ second i ∷ third i ∷ fourth i ∷ []

-- ---- reading

groups_again : (k n : ℕ) (rest : List ℕ) → n < 128 ^ suc k → groups_at k (groups k n ++ rest) ≡ Ok (n, rest)
unfolding groups_at
groups_again zero n rest lt =
    let one : n < 128 = omega arith in
    ap (λ (t : List ℕ). groups_at 0 (t ++ rest)) (one_group 0 n one) ∙ rw (lt-ltb n 128 one) refl
groups_again (suc k) n rest lt = by_size (λ m lt. groups_again k m rest lt) (ltb n 128) refl
  where
    by_size : ((m : ℕ) → m < 128 ^ suc k → groups_at k (groups k m ++ rest) ≡ Ok (m, rest)) → (b : Bool)
        → ltb n 128 ≡ b → groups_at (suc k) (groups (suc k) n ++ rest) ≡ Ok (n, rest)
    by_size again true e = ap (λ (t : List ℕ). groups_at (suc k) (t ++ rest)) (one_group (suc k) n (ltb-true n 128 e))
        ∙ rw e refl
    by_size again false e =
        let le : 128 ≤ n = ltb-false n 128 e in
        let large : ltb (128 + n % 128) 128 ≡ false = le-ltb _ _ (omega arith) in
        let byte : ltb 255 (128 + n % 128) ≡ false = le-ltb _ _ (omega arith) in
        let some : eqb (n / 128) 0 ≡ false = grind (arith, nat_tests) in
        let value : 128 + n % 128 - 128 + 128 * (n / 128) ≡ n = omega arith in
        ap (λ (t : List ℕ). groups_at (suc k) (t ++ rest)) (more_groups k n le)
        ∙ rw (large, again (n / 128) (omega (arith, pow_more k)), byte, some, value) refl

groups_take : (k : ℕ) (bytes : List ℕ) (n : ℕ) (rest : List ℕ) → groups_at k bytes ≡ Ok (n, rest)
    → (bytes ≡ groups k n ++ rest) × (n < 128 ^ suc k)
unfolding groups_at
groups_take zero [] n rest h = absurd cc
groups_take (suc k) [] n rest h = absurd cc
groups_take zero (b ∷ bytes) n rest h = by_size (ltb b 128) refl h
  where
    by_size : (t : Bool) → ltb b 128 ≡ t → cond t (done b bytes) (Err text) ≡ Ok (n, rest)
        → (b ∷ bytes ≡ groups 0 n ++ rest) × (n < 128 ^ 1)
    by_size true e h = let p = done_is b n bytes rest h in let lt =
        ltb-true b 128 e in (
          (λ i. p.0 i ∷ p.1 i) ∙ ap (λ (t : List ℕ). t ++ rest) (sym (one_group 0 n (omega (arith, p.0)))),
          omega (arith, p.0),
        )
    by_size false e h = absurd cc
groups_take (suc k) (b ∷ bytes) n rest h = by_size (λ m left g. groups_take k bytes m left g) (ltb b 128) refl h
  where
    by_value : (m : ℕ) (left : List ℕ) → (bytes ≡ groups k m ++ left) × (m < 128 ^ suc k) → 128 ≤ b → (t : Bool)
        → (eqb m 0 || ltb 255 b) ≡ t → cond t (Err text) (done (b - 128 + 128 * m) left) ≡ Ok (n, rest)
        → (b ∷ bytes ≡ groups (suc k) n ++ rest) × (n < 128 ^ suc (suc k))
    by_value m left before le true e h = absurd cc
    by_value m left before le false e h =
        let p = done_is (b - 128 + 128 * m) n left rest h in
        let some : (0 < m) × (b < 256) = grind (arith, nat_tests) in
        let low : 128 + n % 128 ≡ b = omega (arith, p.0, some.0, some.1) in
        let high : n / 128 ≡ m = omega (arith, p.0, some.0, some.1) in
        let text : groups (suc k) n ≡ b ∷ groups k m =
        more_groups k n (omega (arith, p.0, some.0)) ∙ (λ i. low i ∷ groups k (high i)) in (
          ap (λ (t : List ℕ). b ∷ t) (before.0 ∙ ap (λ (r : List ℕ). groups k m ++ r) p.1)
              ∙ ap (λ (t : List ℕ). t ++ rest) (sym text),
          omega (arith, pow_more k, p.0, before.1, some.1),
        )

    by_size : ((m : ℕ) (left : List ℕ) → groups_at k bytes ≡ Ok (m, left) → (bytes ≡ groups k m ++ left)
        × (m < 128 ^ suc k)) → (t : Bool) → ltb b 128 ≡ t
        → cond t (done b bytes)
        (groups_at k bytes >>= λ high. cond (eqb high.0 0 || ltb 255 b) (Err text)
        (done (b - 128 + 128 * high.0) high.1)) ≡ Ok (n, rest) → (b ∷ bytes ≡ groups (suc k) n ++ rest)
        × (n < 128 ^ suc (suc k))
    by_size again true e h = let p = done_is b n bytes rest h in let lt =
        ltb-true b 128 e in (
          (λ i. p.0 i ∷ p.1 i) ∙ ap (λ (t : List ℕ). t ++ rest) (sym (one_group (suc k) n (omega (arith, p.0)))),
          omega (arith, p.0, pow_more k, positive k),
        )
    by_size again false e h =
        bind_then _ _ _ h
        (λ m em g. by_value m.0 m.1 (again m.0 m.1 em) (ltb-false b 128 e) (eqb m.0 0 || ltb 255 b) refl g)

pub delta_again : (low high n : ℕ) (rest : List ℕ) → low ≤ n → n ≤ high → n < 2 ^ 28
    → delta_at low high (delta n ++ rest) ≡ Ok (n, rest)
unfolding delta_at delta
delta_again low high n rest le1 le2 lt =
    rw (groups_again 3 n rest (omega arith), le-ltb n low le1, le-ltb high n le2) refl

pub delta_takes : (low high : ℕ) (bytes : List ℕ) (n : ℕ) (rest : List ℕ) → delta_at low high bytes ≡ Ok (n, rest)
    → (bytes ≡ delta n ++ rest) × (low ≤ n) × (n ≤ high) × (n < 2 ^ 28)
unfolding delta_at delta
delta_takes low high bytes n rest h =
    bind_then _ _ _ h (λ m em g. by_range m.0 m.1 (groups_take 3 bytes m.0 m.1 em) (ltb m.0 low || ltb high m.0) refl g)
  where
    by_range : (m : ℕ) (left : List ℕ) → (bytes ≡ groups 3 m ++ left) × (m < 128 ^ 4) → (t : Bool)
        → (ltb m low || ltb high m) ≡ t → cond t (Err text) (done m left) ≡ Ok (n, rest)
        → (bytes ≡ groups 3 n ++ rest) × (low ≤ n) × (n ≤ high) × (n < 2 ^ 28)
    by_range m left before true e g = absurd cc
    by_range m left before false e g =
        let p = done_is m n left rest g in
        let range : (low ≤ m) × (m ≤ high) = grind (arith, nat_tests) in (
          before.0 ∙ (λ i. groups 3 (p.0 i) ++ p.1 i),
          omega (arith, p.0, range.0),
          omega (arith, p.0, range.1),
          omega (arith, p.0, before.1),
        )

-- ---- the spelling

no_more_groups : (n : ℕ) → groups 0 n ≡ n ∷ []
unfolding groups
no_more_groups n = refl

groups_short : (j n k : ℕ) → n < 128 ^ suc k → length (groups j n) ≤ suc k
groups_short zero n k lt = let size = ap length (no_more_groups n) in omega (arith, size)
groups_short (suc j) n zero lt =
    let one : n < 128 = omega arith in
    let size = ap length (one_group (suc j) n one) in
    omega (arith, size)
groups_short (suc j) n (suc k) lt = by_size (λ m fits. groups_short j m k fits) (ltb n 128) refl
  where
    by_size : ((m : ℕ) → m < 128 ^ suc k → length (groups j m) ≤ suc k) → (b : Bool) → ltb n 128 ≡ b
        → length (groups (suc j) n) ≤ suc (suc k)
    by_size again true e = let size = ap length (one_group (suc j) n (ltb-true n 128 e)) in omega (arith, size)
    by_size again false e =
        let size = ap length (more_groups j n (ltb-false n 128 e)) in
        let rest = again (n / 128) (omega (arith, pow_more k)) in
        omega (arith, size, rest)

pub delta_short : (n k : ℕ) → n < 128 ^ (k + 1) → length (delta n) ≤ k + 1
unfolding delta
delta_short n k lt =
    let next : k + 1 ≡ suc k = omega arith in
    let fits : n < 128 ^ suc k = subst (λ (j : ℕ). n < 128 ^ j) next lt in
    omega (arith, groups_short 3 n k fits)

pub delta_ends : (m n : ℕ) (more others : List ℕ) → m < 2 ^ 28 → n < 2 ^ 28 → delta m ++ more ≡ delta n ++ others
    → (m ≡ n) × (more ≡ others)
delta_ends m n more others ltm ltn same =
    let first = delta_again 0 268435456 m more (omega arith) (omega (arith, ltm)) ltm in
    let second = delta_again 0 268435456 n others (omega arith) (omega (arith, ltn)) ltn in
    done_is m n more others (sym first ∙ ap (delta_at 0 268435456) same ∙ second)

-- ---- reading group by group

-- what is read of so many groups at most
abbrev pub groups_left : ℕ → List ℕ → Read ℕ
groups_left zero bytes = Err text
groups_left (suc more) bytes = groups_at more bytes

-- the number, by the value of the k groups before, and what one of the next is worth
abbrev pub delta_number : ℕ → ℕ → ℕ → Read ℕ → Read ℕ
delta_number k value worth read =
    read >>= λ high. cond (eqb high.0 0 && ltb 0 k) (Err text) (done (value + worth * high.0) high.1)

pub number_first : (read : Read ℕ) → delta_number 0 0 1 read ≡ read
number_first (Err e) = refl
number_first (Ok (n, rest)) =
    let same : 0 + 1 * n ≡ n = omega arith in
    by_test (eqb n 0) (done (0 + 1 * n) rest) ∙ ap (λ (m : ℕ). done m rest) same
  where
    by_test : (b : Bool) (read : Read ℕ) → cond (b && ltb 0 0) (Err text) read ≡ read
    by_test true read = refl
    by_test false read = refl

pub number_cut : (r k value worth : ℕ) (bytes rest : List ℕ) (whole : Read ℕ) → next_at bytes ≡ Ok (None, rest)
    → delta_number k value worth (groups_left r bytes) ≡ whole → whole ≡ Err text
unfolding groups_at
number_cut zero k value worth bytes rest whole h so_far = sym so_far
number_cut (suc zero) k value worth [] rest whole h so_far = sym so_far
number_cut (suc (suc r)) k value worth [] rest whole h so_far = sym so_far
number_cut (suc r) k value worth (x ∷ bytes) rest whole h so_far =
    let p = done_is (Some x) None bytes rest h in let e = p.0 in absurd cc

pub last_group : (more b : ℕ) (bytes : List ℕ) → b < 128 → groups_at more (b ∷ bytes) ≡ Ok (b, bytes)
unfolding groups_at
last_group zero b bytes lt = rw (lt-ltb b 128 lt) refl
last_group (suc more) b bytes lt = rw (lt-ltb b 128 lt) refl

pub more_group : (more b high : ℕ) (bytes rest : List ℕ) → 128 ≤ b → b < 256 → 0 < high
    → groups_at more bytes ≡ Ok (high, rest) → groups_at (suc more) (b ∷ bytes) ≡ Ok (b - 128 + 128 * high, rest)
unfolding groups_at
more_group more b high bytes rest ge lt some h =
    let large : ltb b 128 ≡ false = le-ltb b 128 ge in
    let byte : ltb 255 b ≡ false = le-ltb 255 b (omega arith) in
    let value : eqb high 0 ≡ false = grind (arith, nat_tests) in
    rw (large, h, byte, value) refl

-- the last group
pub number_last : (r k value worth b : ℕ) (bytes rest : List ℕ) (whole : Read ℕ) (spare : Bool) → 0 < r
    → next_at bytes ≡ Ok (Some b, rest) → b < 128 → (eqb b 0 && ltb 0 k) ≡ spare
    → delta_number k value worth (groups_left r bytes) ≡ whole
    → whole ≡ cond spare (Err text) (done (value + worth * b) rest)
number_last zero k value worth b bytes rest whole spare some h lt test so_far = absurd (omega (arith, some))
number_last (suc r) k value worth b [] rest whole spare some h lt test so_far =
    let p = done_is None (Some b) [] rest h in let e = p.0 in absurd cc
number_last (suc r) k value worth b (x ∷ bytes) rest whole spare some h lt test so_far =
    let p = done_is (Some x) (Some b) bytes rest h in
    let e = p.0 in
    let same : x ≡ b = cc in
    let one : groups_at r (x ∷ bytes) ≡ Ok (b, rest) =
    ap (λ (y : ℕ). groups_at r (y ∷ bytes)) same ∙ last_group r b bytes lt ∙ ap (done b) p.1 in
    sym so_far ∙ ap (delta_number k value worth) one
    ∙ ap (λ (t : Bool). cond t (Err text) (done (value + worth * b) rest)) test

-- a group that is followed by another
pub number_more : (r k value worth b : ℕ) (bytes rest : List ℕ) (whole : Read ℕ) → 0 < r
    → next_at bytes ≡ Ok (Some b, rest) → 128 ≤ b → b < 256
    → delta_number k value worth (groups_left r bytes) ≡ whole
    → delta_number (k + 1) (value + worth * (b - 128)) (worth * 128) (groups_left (r - 1) rest) ≡ whole
unfolding groups_at
number_more zero k value worth b bytes rest whole some h ge lt so_far = absurd (omega (arith, some))
number_more (suc r) k value worth b [] rest whole some h ge lt so_far =
    let p = done_is None (Some b) [] rest h in let e = p.0 in absurd cc
number_more (suc r) k value worth b (x ∷ bytes) rest whole some h ge lt so_far =
    let p = done_is (Some x) (Some b) bytes rest h in
    let e = p.0 in
    let same : x ≡ b = cc in
    let less : suc r - 1 ≡ r = omega arith in
    let one : delta_number k value worth (groups_at r (x ∷ bytes)) ≡ delta_number k value worth (groups_at r (b ∷ rest)) =
    ap (λ (y : ℕ). delta_number k value worth (groups_at r (y ∷ bytes))) same
    ∙ ap (λ (t : List ℕ). delta_number k value worth (groups_at r (b ∷ t))) p.1 in
    ap (λ (j : ℕ). delta_number (k + 1) (value + worth * (b - 128)) (worth * 128) (groups_left j rest)) less
    ∙ sym (by_groups r) ∙ sym one ∙ so_far
  where
    by_read : (read : Read ℕ)
        → delta_number k value worth
        (read >>= λ high. cond (eqb high.0 0 || ltb 255 b) (Err text) (done (b - 128 + 128 * high.0) high.1))
        ≡ delta_number (k + 1) (value + worth * (b - 128)) (worth * 128) read
    by_read (Err e) = refl
    by_read (Ok (zero, after)) =
        let later : ltb 0 (k + 1) ≡ true = lt-ltb 0 (k + 1) (omega arith) in
        rw later refl
    by_read (Ok (suc n, after)) =
        let byte : ltb 255 b ≡ false = le-ltb 255 b (omega (arith, lt)) in
        let some : eqb (b - 128 + 128 * suc n) 0 ≡ false = grind (arith, nat_tests) in
        let none : eqb (suc n) 0 ≡ false = grind (arith, nat_tests) in
        let sum : value + worth * (b - 128 + 128 * suc n) ≡ value + worth * (b - 128) + worth * 128 * suc n =
        grind arith in
        rw (byte, none, some, sum) refl

    by_groups : (r : ℕ) → delta_number k value worth (groups_at r (b ∷ rest))
        ≡ delta_number (k + 1) (value + worth * (b - 128)) (worth * 128) (groups_left r rest)
    by_groups zero = rw (le-ltb b 128 ge) refl
    by_groups (suc r) = rw (le-ltb b 128 ge) (by_read (groups_at r rest))

-- what a group is worth fits
small_worth : (k : ℕ) → k < 4 → 128 ^ k ≤ 2097152
small_worth zero lt = omega arith
small_worth (suc zero) lt = omega arith
small_worth (suc (suc zero)) lt = omega arith
small_worth (suc (suc (suc zero))) lt = omega arith
small_worth (suc (suc (suc (suc k)))) lt = absurd (omega (arith, lt))

pub fits_worth : (worth k b : ℕ) → worth ≡ 128 ^ k → k < 4 → b ≤ 127 → (worth ≤ 2097152) × (worth * b ≤ 266338304)
fits_worth worth k b is lt le =
    let small : worth ≤ 2097152 = rw is (small_worth k lt) in
    (small, mul-le worth b 2097152 127 small le)

pub worth_more : (k : ℕ) → 128 ^ k * 128 ≡ 128 ^ (k + 1)
worth_more k = let next : k + 1 ≡ suc k = omega arith in rw next (grind arith)

-- there are more groups than four
pub number_over : (r k value worth : ℕ) (bytes : List ℕ) (whole : Read ℕ) → r ≡ 0
    → delta_number k value worth (groups_left r bytes) ≡ whole → whole ≡ Err text
number_over zero k value worth bytes whole none so_far = sym so_far
number_over (suc r) k value worth bytes whole none so_far = absurd (omega (arith, none))
