-- A number that is read is spelled so, and a number that is spelled so is read.
use Rattle.std.proofs.Common.{◌≡◌, ℕ, zero, suc, ◌+◌, ◌-◌, ◌*◌, ◌/◌, ◌%◌, ◌^◌, ◌<◌, ◌≤◌, Bool, true, false, cond, ltb}
use Rattle.std.proofs.Common.{eqb, eq-eqb, List, [], ◌∷◌, ◌++◌, Option, Some, None, Result, Ok, Err, refl, sym, ap}
use Rattle.std.proofs.Common.{◌∙◌, append_assoc, arith}
use Rattle.std.proofs.lemmas.Bool.{ltb-false, eqb-true}
use Rattle.std.proofs.lemmas.Bool.Decides.{nat_tests}
use Rattle.std.proofs.lemmas.Fmt.{decimal_digit, decimal_step, decimal_by_steps}
use Rattle.std.specs.Fmt.{decimal}
use Rattle.aig_format.specs.Header.{field}
use Rattle.aig_format.specs.Spelling.{reset_text}
use Rattle.aig_format.specs.state.Reading.{Refusal, text, limit, ◌>>=◌, is_digit, digit_at, is_next_at, byte_at}
use Rattle.aig_format.specs.state.Reading.{digits_at, zero_then, number_then, number_at, field_at, more_at, optional_at}
use Rattle.aig_format.proofs.Steps.{done, done_is, found_digit, no_digit, digits_on, digits_done}

-- the value of a step that was not refused
pub bind_ok : {A B : Type 0} (r : Result A Refusal) (f : A → Result B Refusal) (y : B) → (r >>= f) ≡ Ok y
    → (x : A) × (r ≡ Ok x) × (f x ≡ Ok y)
bind_ok (Ok x) f y e = (x, refl, e)
bind_ok (Err d) f y e = absurd cc

-- the same, for what follows from each value
pub bind_then : {A B : Type 0} {C : Type 0} (r : Result A Refusal) (f : A → Result B Refusal) (y : B)
    → (r >>= f) ≡ Ok y → ((x : A) → r ≡ Ok x → f x ≡ Ok y → C) → C
bind_then (Ok x) f y e k = k x refl e
bind_then (Err d) f y e k = absurd cc

-- what is read in two steps
pub joins : (a x b y c : List ℕ) → a ≡ x ++ b → b ≡ y ++ c → a ≡ (x ++ y) ++ c
joins a x b y c p q = p ∙ ap (λ (t : List ℕ). x ++ t) q ∙ sym (append_assoc x y c)

-- ---- a digit

pub digit_takes : (bytes : List ℕ) (d : ℕ) (rest : List ℕ) → digit_at bytes ≡ Ok (Some d, rest)
    → (bytes ≡ (48 + d) ∷ rest) × (d < 10)
unfolding digit_at
digit_takes [] d rest h = let p = done_is None (Some d) [] rest h in let e = p.0 in absurd cc
digit_takes (x ∷ xs) d rest h =
    let p = found_digit x d xs rest h in
    let test = p.0 in
    let range : (48 ≤ x) × (x ≤ 57) = grind (arith, nat_tests) in
    let e : x ≡ 48 + d = omega (arith, range.0, p.1) in
    (rw (e, p.2) refl, omega (arith, range.1))

pub digit_again : (d : ℕ) (rest : List ℕ) → d < 10 → digit_at ((48 + d) ∷ rest) ≡ Ok (Some d, rest)
unfolding digit_at
digit_again d rest lt =
    let test : is_digit (48 + d) ≡ true = grind (arith, nat_tests) in
    let e : 48 + d - 48 ≡ d = omega arith in
    rw (test, e) refl

pub no_digit_takes : (bytes rest : List ℕ) → digit_at bytes ≡ Ok (None, rest) → bytes ≡ rest
unfolding digit_at
no_digit_takes [] rest h = (done_is None None [] rest h).1
no_digit_takes (x ∷ xs) rest h = (no_digit x xs rest h).1

-- ---- a number

digits_take : (bound n : ℕ) (bytes : List ℕ) (m : ℕ) (rest : List ℕ) → 0 < n → n ≤ bound → bound < 2 ^ 64
    → digits_at bound n bytes ≡ Ok (m, rest) → (decimal n ++ bytes ≡ decimal m ++ rest) × (m ≤ bound)
unfolding digits_at
digits_take bound n [] m rest some le small h = let p = done_is n m [] rest h in (rw (p.0, p.1) refl, rw (← p.0) le)
digits_take bound n (x ∷ xs) m rest some le small h =
    by_digit (λ k pos within g. digits_take bound k xs m rest pos within small g) (is_digit x) refl h
  where
    by_bound : ((k : ℕ) → 0 < k → k ≤ bound → digits_at bound k xs ≡ done m rest
        → (decimal k ++ xs ≡ decimal m ++ rest) × (m ≤ bound)) → (next : ℕ) → next ≡ n * 10 + (x - 48) → (b : Bool)
        → ltb bound next ≡ b → is_digit x ≡ true → cond b (Err limit) (digits_at bound next xs) ≡ done m rest
        → (decimal n ++ x ∷ xs ≡ decimal m ++ rest) × (m ≤ bound)
    by_bound again next is true e digit h = absurd cc
    by_bound again next is false e digit h =
        let range : (48 ≤ x) × (x ≤ 57) = grind (arith, nat_tests) in
        let within : next ≤ bound = ltb-false _ _ e in
        let p = again next (omega arith) within h in
        let front : next / 10 ≡ n = omega (arith, range.0, range.1) in
        let end : 48 + next % 10 ≡ x = omega (arith, range.0, range.1) in
        let step : decimal next ≡ decimal n ++ x ∷ [] =
        decimal_step next (omega arith) (omega (arith, within)) ∙ (λ i. decimal (front i) ++ (end i ∷ [])) in
        (sym (append_assoc (decimal n) (x ∷ []) xs) ∙ ap (λ (t : List ℕ). t ++ xs) (sym step) ∙ p.0, p.1)

    by_digit : ((k : ℕ) → 0 < k → k ≤ bound → digits_at bound k xs ≡ done m rest
        → (decimal k ++ xs ≡ decimal m ++ rest) × (m ≤ bound)) → (b : Bool) → is_digit x ≡ b
        → cond b (cond (ltb bound (n * 10 + (x - 48))) (Err limit) (digits_at bound (n * 10 + (x - 48)) xs))
        (done n (x ∷ xs)) ≡ done m rest → (decimal n ++ x ∷ xs ≡ decimal m ++ rest) × (m ≤ bound)
    by_digit again true e h = by_bound again (n * 10 + (x - 48)) refl (ltb bound (n * 10 + (x - 48))) refl e h
    by_digit again false e h = let p = done_is n m (x ∷ xs) rest h in (rw (p.0, p.1) refl, rw (← p.0) le)

number_then_takes : (bound : ℕ) (o : Option ℕ) (bytes after : List ℕ) (m : ℕ) (rest : List ℕ) → 9 ≤ bound
    → bound < 2 ^ 64 → digit_at bytes ≡ Ok (o, after) → number_then bound o after ≡ Ok (m, rest)
    → (bytes ≡ decimal m ++ rest) × (m ≤ bound)
unfolding number_then
number_then_takes bound None bytes after m rest nine small d h = absurd cc
number_then_takes bound (Some zero) bytes after m rest nine small d h =
    let b = bind_ok (digit_at after) (λ second. zero_then second.0 second.1) (m, rest) h in
    by_second b.0.0 b.0.1 b.1 b.2
  where
    by_second : (o : Option ℕ) (left : List ℕ) → digit_at after ≡ Ok (o, left) → zero_then o left ≡ Ok (m, rest)
        → (bytes ≡ decimal m ++ rest) × (m ≤ bound)
    by_second None left e z =
        let p = done_is 0 m left rest z in
        let first = (digit_takes bytes 0 after d).0 in (
          first ∙ ap (λ (t : List ℕ). 48 ∷ t) (no_digit_takes after left e ∙ p.1)
              ∙ ap (λ (t : List ℕ). t ++ rest) (sym (decimal_digit 0 (omega arith)) ∙ ap decimal p.0),
          omega (arith, p.0),
        )
    by_second (Some c) left e z = absurd cc
number_then_takes bound (Some (suc k)) bytes after m rest nine small d h =
    let first = digit_takes bytes (suc k) after d in
    let p = digits_take bound (suc k) after m rest (omega arith) (omega (arith, first.1)) small h in
    (first.0 ∙ ap (λ (t : List ℕ). t ++ after) (sym (decimal_digit (suc k) first.1)) ∙ p.0, p.1)

pub number_takes : (bound : ℕ) (bytes : List ℕ) (m : ℕ) (rest : List ℕ) → 9 ≤ bound → bound < 2 ^ 64
    → number_at bound bytes ≡ Ok (m, rest) → (bytes ≡ decimal m ++ rest) × (m ≤ bound)
unfolding number_at
number_takes bound bytes m rest nine small h =
    let b = bind_ok (digit_at bytes) (λ first. number_then bound first.0 first.1) (m, rest) h in
    number_then_takes bound b.0.0 bytes b.0.1 m rest nine small b.1 b.2

-- reading the digits of a positive number comes to the digits after it
number_goes_on : (bound n : ℕ) (rest : List ℕ) → 0 < n → n ≤ bound → n < 2 ^ 64 → number_at bound (decimal n ++ rest)
    ≡ digits_at bound n rest
unfolding number_at number_then
number_goes_on bound n rest some le small =
    decimal_by_steps (λ m ds. 0 < m → m ≤ bound → (rest : List ℕ) → number_at bound (ds ++ rest)
    ≡ digits_at bound m rest) one more n small some le rest
  where
    one : (m : ℕ) → m < 10 → 0 < m → m ≤ bound → (rest : List ℕ) → number_at bound ((48 + m) ∷ rest)
        ≡ digits_at bound m rest
    one zero lt some le rest = absurd (omega arith)
    one (suc m) lt some le rest = rw (digit_again (suc m) rest lt) refl

    more : (m : ℕ) (ds : List ℕ) → 10 ≤ m
        → (0 < m / 10 → m / 10 ≤ bound → (rest : List ℕ) → number_at bound (ds ++ rest) ≡ digits_at bound (m / 10) rest)
        → 0 < m → m ≤ bound → (rest : List ℕ) → number_at bound ((ds ++ (48 + m % 10) ∷ []) ++ rest)
        ≡ digits_at bound m rest
    more m ds ten before some le rest =
        let same : m / 10 * 10 + m % 10 ≡ m = omega arith in
        ap (number_at bound) (append_assoc ds ((48 + m % 10) ∷ []) rest)
        ∙ before (omega arith) (omega arith) ((48 + m % 10) ∷ rest)
        ∙ digits_on bound (m / 10) ((48 + m % 10) ∷ rest) (m % 10) rest (digit_again (m % 10) rest (omega arith))
        (omega (arith, same))
        ∙ ap (λ (k : ℕ). digits_at bound k rest) same

-- no digit follows
abbrev pub Stops : List ℕ → Type 0
Stops rest = digit_at rest ≡ Ok (None, rest)

pub number_again : (bound n : ℕ) (rest : List ℕ) → n ≤ bound → bound < 2 ^ 64 → Stops rest
    → number_at bound (decimal n ++ rest) ≡ Ok (n, rest)
unfolding number_at number_then
number_again bound zero rest le small stops =
    ap (λ (t : List ℕ). number_at bound (t ++ rest)) (decimal_digit 0 (omega arith))
    ∙ rw (digit_again 0 rest (omega arith), stops) refl
number_again bound (suc n) rest le small stops = number_goes_on bound (suc n) rest (omega arith) le (omega arith)
    ∙ digits_done bound (suc n) rest rest stops

-- ---- a byte

pub is_next_takes : (b : ℕ) (bytes : List ℕ) (found : Bool) (rest : List ℕ) → is_next_at b bytes ≡ Ok (found, rest)
    → bytes ≡ cond found (b ∷ rest) rest
unfolding is_next_at
is_next_takes b [] found rest h = let p = done_is false found [] rest h in rw (← p.0, p.1) refl
is_next_takes b (x ∷ xs) found rest h = by_test (eqb x b) refl h
  where
    by_test : (t : Bool) → eqb x b ≡ t → cond t (done true xs) (done false (x ∷ xs)) ≡ done found rest
        → x ∷ xs ≡ cond found (b ∷ rest) rest
    by_test true e h = let p = done_is true found xs rest h in let same : x ≡ b =
        eqb-true x b e in rw (← p.0, same, p.1) refl
    by_test false e h = let p = done_is false found (x ∷ xs) rest h in rw (← p.0, p.1) refl

pub byte_takes : (b : ℕ) (bytes : List ℕ) (u : Unit {0}) (rest : List ℕ) → byte_at b bytes ≡ Ok (u, rest)
    → bytes ≡ b ∷ rest
unfolding byte_at
byte_takes b bytes u rest h =
    let s = bind_ok (is_next_at b bytes) (λ found. cond found.0 (done tt found.1) (Err text)) (u, rest) h in
    by_found s.0.0 s.0.1 s.1 s.2
  where
    by_found : (f : Bool) (left : List ℕ) → is_next_at b bytes ≡ Ok (f, left) → cond f (done tt left) (Err text)
        ≡ Ok (u, rest) → bytes ≡ b ∷ rest
    by_found true left e g = is_next_takes b bytes true left e ∙ ap (λ (t : List ℕ). b ∷ t) (done_is tt u left rest g).1
    by_found false left e g = absurd cc

is_next_again : (b : ℕ) (rest : List ℕ) → is_next_at b (b ∷ rest) ≡ Ok (true, rest)
unfolding is_next_at
is_next_again b rest = let e : eqb b b ≡ true = eq-eqb b b refl in rw e refl

pub byte_again : (b : ℕ) (rest : List ℕ) → byte_at b (b ∷ rest) ≡ Ok (tt, rest)
unfolding byte_at
byte_again b rest = rw (is_next_again b rest) refl

-- ---- a number and its end

pub field_takes : (bound end : ℕ) (bytes : List ℕ) (n : ℕ) (rest : List ℕ) → 9 ≤ bound → bound < 2 ^ 64
    → field_at bound end bytes ≡ Ok (n, rest) → (bytes ≡ field n end ++ rest) × (n ≤ bound)
unfolding field_at
field_takes bound end bytes n rest nine small h =
    let a = bind_ok (number_at bound bytes) (λ k. byte_at end k.1 >>= λ e. done k.0 e.1) (n, rest) h in
    let b = bind_ok (byte_at end a.0.1) (λ e. done a.0.0 e.1) (n, rest) a.2 in
    let p = done_is a.0.0 n b.0.1 rest b.2 in
    let first = number_takes bound bytes a.0.0 a.0.1 nine small a.1 in
    let second = byte_takes end a.0.1 b.0.0 b.0.1 b.1 in (
      joins bytes (decimal a.0.0) a.0.1 (end ∷ []) b.0.1 first.0 second ∙ (λ i. field (p.0 i) end ++ p.1 i),
      omega (arith, first.1, p.0),
    )

pub field_again : (bound end n : ℕ) (rest : List ℕ) → n ≤ bound → bound < 2 ^ 64 → Stops (end ∷ rest)
    → field_at bound end (field n end ++ rest) ≡ Ok (n, rest)
unfolding field_at
field_again bound end n rest le small stops =
    ap (field_at bound end) (append_assoc (decimal n) (end ∷ []) rest)
    ∙ rw (number_again bound n (end ∷ rest) le small stops, byte_again end rest) refl

pub stops_space : (rest : List ℕ) → Stops (32 ∷ rest)
unfolding digit_at
stops_space rest = refl

pub stops_line : (rest : List ℕ) → Stops (10 ∷ rest)
unfolding digit_at
stops_line rest = refl

-- ---- a number that may be left out

pub more_takes : (bytes : List ℕ) (m : Bool) (rest : List ℕ) → more_at bytes ≡ Ok (m, rest)
    → bytes ≡ cond m (32 ∷ rest) (10 ∷ rest)
unfolding more_at
more_takes bytes m rest h =
    let s = bind_ok (is_next_at 32 bytes)
    (λ space. cond space.0 (done true space.1) (byte_at 10 space.1 >>= λ e. done false e.1)) (m, rest) h in
    by_space s.0.0 s.0.1 s.1 s.2
  where
    by_space : (f : Bool) (left : List ℕ) → is_next_at 32 bytes ≡ Ok (f, left)
        → cond f (done true left) (byte_at 10 left >>= λ e. done false e.1) ≡ Ok (m, rest)
        → bytes ≡ cond m (32 ∷ rest) (10 ∷ rest)
    by_space true left e g = let p = done_is true m left rest g in is_next_takes 32 bytes true left e
        ∙ rw (← p.0, p.1) refl
    by_space false left e g =
        let b = bind_ok (byte_at 10 left) (λ e. done false e.1) (m, rest) g in
        let p = done_is false m b.0.1 rest b.2 in
        is_next_takes 32 bytes false left e ∙ byte_takes 10 left b.0.0 b.0.1 b.1
        ∙ (λ i. cond (p.0 i) (32 ∷ p.1 i) (10 ∷ p.1 i))

pub more_space : (rest : List ℕ) → more_at (32 ∷ rest) ≡ Ok (true, rest)
unfolding more_at is_next_at
more_space rest = refl

pub more_line : (rest : List ℕ) → more_at (10 ∷ rest) ≡ Ok (false, rest)
unfolding more_at is_next_at byte_at
more_line rest = refl

pub optional_takes : (bound : ℕ) (bytes : List ℕ) (n : ℕ) (rest : List ℕ) → 9 ≤ bound → bound < 2 ^ 64
    → optional_at bound bytes ≡ Ok (n, rest) → (w : Bool) × (bytes ≡ reset_text w n ++ rest) × (n ≤ bound)
unfolding optional_at
optional_takes bound bytes n rest nine small h =
    let s = bind_ok (more_at bytes) (λ more. cond more.0 (field_at bound 10 more.1) (done 0 more.1)) (n, rest) h in
    by_more s.0.0 s.0.1 s.1 s.2
  where
    by_more : (m : Bool) (left : List ℕ) → more_at bytes ≡ Ok (m, left)
        → cond m (field_at bound 10 left) (done 0 left) ≡ Ok (n, rest) → (w : Bool) × (bytes ≡ reset_text w n ++ rest)
        × (n ≤ bound)
    by_more true left e g =
        let p = field_takes bound 10 left n rest nine small g in
        (true, more_takes bytes true left e ∙ ap (λ (t : List ℕ). 32 ∷ t) p.0, p.1)
    by_more false left e g =
        let p = done_is 0 n left rest g in
        (false, more_takes bytes false left e ∙ (λ i. reset_text false (p.0 i) ++ p.1 i), omega (arith, p.0))

-- the number before a byte that was read too
pub field_number : (bound end : ℕ) (bytes : List ℕ) (n : ℕ) (rest : List ℕ) → field_at bound end bytes ≡ Ok (n, rest)
    → number_at bound bytes ≡ Ok (n, end ∷ rest)
unfolding field_at
field_number bound end bytes n rest h =
    let a = bind_ok (number_at bound bytes) (λ k. byte_at end k.1 >>= λ e. done k.0 e.1) (n, rest) h in
    let b = bind_ok (byte_at end a.0.1) (λ e. done a.0.0 e.1) (n, rest) a.2 in
    let p = done_is a.0.0 n b.0.1 rest b.2 in
    let left : a.0.1 ≡ end ∷ rest =
    byte_takes end a.0.1 b.0.0 b.0.1 b.1 ∙ ap (λ (t : List ℕ). end ∷ t) p.1 in
    a.1 ∙ (λ i. done (p.0 i) (left i))

pub optional_none : (bound : ℕ) (rest : List ℕ) → optional_at bound (10 ∷ rest) ≡ Ok (0, rest)
unfolding optional_at
optional_none bound rest = rw (more_line rest) refl

pub optional_some : (bound : ℕ) (bytes : List ℕ) (n : ℕ) (rest : List ℕ) → field_at bound 10 bytes ≡ Ok (n, rest)
    → optional_at bound (32 ∷ bytes) ≡ Ok (n, rest)
unfolding optional_at
optional_some bound bytes n rest h = rw (more_space bytes, h) refl

pub optional_again : (bound : ℕ) (w : Bool) (n : ℕ) (rest : List ℕ) → n ≤ bound → bound < 2 ^ 64
    → optional_at bound (reset_text w n ++ rest) ≡ Ok (n, rest)
unfolding optional_at
optional_again bound true n rest le small =
    rw (more_space (field n 10 ++ rest)) (field_again bound 10 n rest le small (stops_line rest))
optional_again bound false zero rest le small = rw (more_line rest) refl
optional_again bound false (suc n) rest le small =
    let some : eqb (suc n) 0 ≡ false = grind (arith, nat_tests) in
    rw some (rw (more_space (field (suc n) 10 ++ rest)) (field_again bound 10 (suc n) rest le small (stops_line rest)))
