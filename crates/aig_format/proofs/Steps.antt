-- How reading goes on, for loops.
use Rattle.std.proofs.Common.{◌≡◌, ℕ, suc, ◌+◌, ◌-◌, ◌*◌, ◌<◌, ◌≤◌, Bool, true, false, cond, ltb, List, [], ◌∷◌}
use Rattle.std.proofs.Common.{◌++◌, Option, Some, None, Result, Ok, Err, refl, sym, ap, subst, ◌∙◌, append_assoc}
use Rattle.std.proofs.Common.{arith, length, length-append, drop}
use Rattle.std.proofs.lemmas.List.{append-nil, length-drop, drop-drop, drop-append-le}
use Rattle.std.proofs.lemmas.Bool.{lt-ltb, le-ltb}
use Rattle.aig_parts.specs.declared.fault.Fault.{Fault}
use Rattle.aig_parts.specs.declared.fault.Fault.TheVariants as faults
use Rattle.aig_format.specs.state.Reading.{Refusal, limit, Read, EndsItself, ◌>>=◌, is_digit, digit_at, digits_at}
use Rattle.aig_format.specs.state.ReadingSections.{lines_at, with_front}
use Rattle.aig_format.specs.state.ReaderAnswers.{Fails}
use Rattle.aig_format.specs.state.Reads.{AddsItems}

abbrev pub done : {A : Type 0} → A → List ℕ → Read A
done x rest = Ok (x, rest)

pub done_is : {A : Type 0} (x y : A) (xs ys : List ℕ) → done x xs ≡ done y ys → (x ≡ y) × (xs ≡ ys)
done_is {A} x y xs ys h =
    let P : Type 0 = A × List ℕ in
    let p : P = (x, xs) in
    let q : P = (y, ys) in
    let e : p ≡ q = cc in
    (ap (λ (r : P). r.0) e, ap (λ (r : P). r.1) e)

-- a step that fails is the failure of all
pub fails_on : {A B : Type 0} (e : Fault) (r : Result A Refusal) (f : A → Result B Refusal) → Fails e r
    → Fails e (r >>= f)
fails_on (faults.Text at) r f h = rw h refl
fails_on faults.Limit r f h = rw h refl
fails_on faults.Memory r f h = tt
fails_on faults.Io r f h = tt
fails_on fault r f h = absurd h

-- a step that is never refused fails where memory runs out or a read fails, and nowhere else
pub fails_else : {A B : Type 0} (e : Fault) (r : Result A Refusal) (x : A) (read : Result B Refusal) → r ≡ Ok x
    → Fails e r → Fails e read
fails_else (faults.Text at) r x read is h = let clash = sym is ∙ h in absurd cc
fails_else faults.Limit r x read is h = let clash = sym is ∙ h in absurd cc
fails_else faults.Memory r x read is h = tt
fails_else faults.Io r x read is h = tt
fails_else fault r x read is h = absurd h

-- ---- numbers

-- the digit that was found, and what is left
pub found_digit : (x d : ℕ) (xs rest : List ℕ) → digit_at (x ∷ xs) ≡ Ok (Some d, rest)
    → (is_digit x ≡ true) × (x - 48 ≡ d) × (xs ≡ rest)
unfolding digit_at
found_digit x d xs rest h = by_test (is_digit x) h
  where
    by_test : (b : Bool) → cond b (done (Some (x - 48)) xs) (done None (x ∷ xs)) ≡ done (Some d) rest
        → (b ≡ true) × (x - 48 ≡ d) × (xs ≡ rest)
    by_test true h = let p = done_is (Some (x - 48)) (Some d) xs rest h in let e =
        p.0 in (refl, (let f : x - 48 ≡ d = cc in f), p.1)
    by_test false h = let p = done_is None (Some d) (x ∷ xs) rest h in let e = p.0 in absurd cc

pub no_digit : (x : ℕ) (xs rest : List ℕ) → digit_at (x ∷ xs) ≡ Ok (None, rest) → (is_digit x ≡ false) × (x ∷ xs ≡ rest)
unfolding digit_at
no_digit x xs rest h = by_test (is_digit x) h
  where
    by_test : (b : Bool) → cond b (done (Some (x - 48)) xs) (done None (x ∷ xs)) ≡ done None rest
        → (b ≡ false) × (x ∷ xs ≡ rest)
    by_test true h = let p = done_is (Some (x - 48)) None xs rest h in let e = p.0 in absurd cc
    by_test false h = (refl, (done_is None None (x ∷ xs) rest h).1)

-- one more digit
digits_more : (bound n : ℕ) (bytes : List ℕ) (d : ℕ) (rest : List ℕ) → digit_at bytes ≡ Ok (Some d, rest)
    → digits_at bound n bytes ≡ cond (ltb bound (n * 10 + d)) (Err limit) (digits_at bound (n * 10 + d) rest)
unfolding digit_at digits_at
digits_more bound n [] d rest h = let p = done_is None (Some d) [] rest h in let e = p.0 in absurd cc
digits_more bound n (x ∷ xs) d rest h = let p = found_digit x d xs rest h in rw (p.0, p.1, p.2) refl

pub digits_on : (bound n : ℕ) (bytes : List ℕ) (d : ℕ) (rest : List ℕ) → digit_at bytes ≡ Ok (Some d, rest)
    → n * 10 + d ≤ bound → digits_at bound n bytes ≡ digits_at bound (n * 10 + d) rest
digits_on bound n bytes d rest h le = digits_more bound n bytes d rest h ∙ rw (le-ltb bound (n * 10 + d) le) refl

pub digits_over : (bound n : ℕ) (bytes : List ℕ) (d : ℕ) (rest : List ℕ) → digit_at bytes ≡ Ok (Some d, rest)
    → bound < n * 10 + d → digits_at bound n bytes ≡ Err limit
digits_over bound n bytes d rest h lt = digits_more bound n bytes d rest h ∙ rw (lt-ltb bound (n * 10 + d) lt) refl

-- no more digits
pub digits_done : (bound n : ℕ) (bytes rest : List ℕ) → digit_at bytes ≡ Ok (None, rest)
    → digits_at bound n bytes ≡ Ok (n, rest)
unfolding digit_at digits_at
digits_done bound n [] rest h = let p = done_is None None [] rest h in rw (p.1) refl
digits_done bound n (x ∷ xs) rest h = let p = no_digit x xs rest h in rw (p.0, p.1) refl

-- looking for a digit is never refused
digit_ok : (bytes : List ℕ) → (o : Option ℕ) × (rest : List ℕ) × (digit_at bytes ≡ done o rest)
unfolding digit_at
digit_ok [] = (None, [], refl)
digit_ok (x ∷ xs) = by_test (is_digit x)
  where
    by_test : (b : Bool) → (o : Option ℕ) × (rest : List ℕ)
        × (cond b (done (Some (x - 48)) xs) (done None (x ∷ xs)) ≡ done o rest)
    by_test true = (Some (x - 48), xs, refl)
    by_test false = (None, x ∷ xs, refl)

pub digit_fails : {B : Type 0} (e : Fault) (bytes : List ℕ) (read : Result B Refusal) → Fails e (digit_at bytes)
    → Fails e read
digit_fails e bytes read h = let k = digit_ok bytes in fails_else e (digit_at bytes) (k.0, k.1) read k.2 h

-- ---- lines

pub regroup : {X : Type 0} (front : List X) (x : X) (read : Read (List X))
    → with_front front (read >>= λ y. Ok (x ∷ y.0, y.1)) ≡ with_front (front ++ x ∷ []) read
regroup {X} front x (Ok y) = ap (λ (xs : List X). done xs y.1) (simp append_assoc)
regroup front x (Err e) = refl

-- a failure of the first of two steps
pub bind_bind : {A B C : Type 0} (r : Result A Refusal) (f : A → Result B Refusal) (g : B → Result C Refusal)
    → ((r >>= f) >>= g) ≡ (r >>= λ x. f x >>= g)
bind_bind (Ok x) f g = refl
bind_bind (Err e) f g = refl

module _ {X : Type 0} (line : ℕ → List ℕ → Read X) where
  pub lines_on : (front : List X) (count i v w : ℕ) (bytes : List ℕ) (x : X) (after : List ℕ) (total : Read (List X))
      → i < count → w ≡ suc v → line v bytes ≡ Ok (x, after)
      → with_front front (lines_at line (count - i) v bytes) ≡ total
      → with_front (front ++ x ∷ []) (lines_at line (count - (i + 1)) w after) ≡ total
  unfolding lines_at
  lines_on front count i v w bytes x after total lt is h so_far =
      let k : count - i ≡ suc (count - (i + 1)) = omega arith in
      let one : with_front front (lines_at line (count - i) v bytes)
      ≡ with_front (front ++ x ∷ []) (lines_at line (count - (i + 1)) (suc v) after) =
      rw (k, h) (regroup front x (lines_at line (count - (i + 1)) (suc v) after)) in
      ap (λ (u : ℕ). with_front (front ++ x ∷ []) (lines_at line (count - (i + 1)) u after)) is ∙ sym one ∙ so_far

  -- the first one is at the front of bytes, whatever comes after these
  pub lines_next : (front : List X) (v : ℕ) (bytes after : List ℕ) (x : X) → EndsItself (line v) → line v bytes ≡ Ok (x, after)
      → (rest : ℕ) (more : List ℕ) → with_front (front ++ x ∷ []) (lines_at line rest (suc v) (after ++ more))
      ≡ with_front front (lines_at line (suc rest) v (bytes ++ more))
  unfolding lines_at
  lines_next front v bytes after x ends h rest more =
      let e = ends bytes after x h in
      let first : line v (bytes ++ more) ≡ Ok (x, after ++ more) =
      ap (λ (xs : List ℕ). line v (xs ++ more)) e.1 ∙ ap (line v) (append_assoc e.0 after more) ∙ e.2 (after ++ more) in
      rw first (sym (regroup front x (lines_at line rest (suc v) (after ++ more))))

  pub adds_none : (first : ℕ) (buffered : List ℕ) (all : List X) → AddsItems line first 0 0 buffered all all
  adds_none first buffered all = record {
    within = omega arith;
    count = omega arith;
    lines = λ rest more.
        let e : first + 0 ≡ first = omega arith in
        let k : rest ≡ 0 + rest = omega arith in
        ap (λ (v : ℕ). with_front all (lines_at line rest v (buffered ++ more))) e
        ∙ ap (λ (n : ℕ). with_front all (lines_at line n first (buffered ++ more))) k;
  }

  -- one more that is buffered
  pub adds_more : (first taken size more : ℕ) (buffered shown : List ℕ) (old all new : List X) (x : X)
      → AddsItems line first taken size buffered old all → shown ≡ drop size buffered → EndsItself (line (first + taken))
      → more ≤ length shown → line (first + taken) shown ≡ Ok (x, drop more shown) → new ≡ all ++ x ∷ []
      → AddsItems line first (taken + 1) (size + more) buffered old new
  adds_more first taken size more buffered shown old all new x adds same ends le h is = record {
    within = omega (arith, le, ap length same, length-drop size buffered, adds.within);
    count = omega (arith, ap length is, length-append all (x ∷ []), adds.count);
    lines = λ rest unread.
        let v : first + (taken + 1) ≡ suc (first + taken) = omega arith in
        let k : taken + suc rest ≡ taken + 1 + rest = omega arith in
        ap (λ (ys : List X). with_front ys (lines_at line rest (first + (taken + 1)) (drop (size + more) buffered ++ unread))) is
        ∙ ap (λ (u : ℕ). with_front (all ++ x ∷ []) (lines_at line rest u (drop (size + more) buffered ++ unread))) v
        ∙ ap (λ (xs : List ℕ). with_front (all ++ x ∷ []) (lines_at line rest (suc (first + taken)) (xs ++ unread)))
        (sym (drop-drop more size buffered))
        ∙ lines_next all (first + taken) (drop size buffered) (drop more (drop size buffered)) x ends
        (subst (λ (xs : List ℕ). line (first + taken) xs ≡ Ok (x, drop more xs)) same h) rest unread
        ∙ adds.lines (suc rest) unread
        ∙ ap (λ (n : ℕ). with_front old (lines_at line n first (buffered ++ unread))) k;
  }

  -- those that were buffered are read
  pub lines_taken : (all new : List X) (count i first taken size : ℕ) (shown buffered unread bytes after : List ℕ)
      (total : Read (List X)) → i + taken ≤ count → shown ≡ buffered → bytes ≡ buffered ++ unread → after ≡ drop size bytes
      → AddsItems line (first + i) taken size shown all new
      → with_front all (lines_at line (count - i) (first + i) bytes) ≡ total
      → with_front new (lines_at line (count - (i + taken)) (first + (i + taken)) after) ≡ total
  lines_taken all new count i first taken size shown buffered unread bytes after total le same split is adds so_far =
      let rest : ℕ = count - (i + taken) in
      let whole : bytes ≡ shown ++ unread = split ∙ ap (λ (xs : List ℕ). xs ++ unread) (sym same) in
      let left : after ≡ drop size shown ++ unread =
      is ∙ ap (drop size) whole ∙ drop-append-le size shown unread adds.within in
      let k : taken + (count - (i + taken)) ≡ count - i = omega (arith, le) in
      let v : first + (i + taken) ≡ first + i + taken = omega arith in
      ap (λ (u : ℕ). with_front new (lines_at line rest u after)) v
      ∙ ap (λ (xs : List ℕ). with_front new (lines_at line rest (first + i + taken) xs)) left
      ∙ adds.lines rest unread
      ∙ ap (λ (n : ℕ). with_front all (lines_at line n (first + i) (shown ++ unread))) k
      ∙ ap (λ (xs : List ℕ). with_front all (lines_at line (count - i) (first + i) xs)) (sym whole) ∙ so_far

  pub lines_fail : (e : Fault) (front : List X) (count i v : ℕ) (bytes : List ℕ) (total : Read (List X)) → i < count
      → Fails e (line v bytes)
      → with_front front (lines_at line (count - i) v bytes) ≡ total → Fails e total
  unfolding lines_at
  lines_fail e front count i v bytes total lt h so_far =
      let k : count - i ≡ suc (count - (i + 1)) = omega arith in
      let go : X × List ℕ → Read (List X) =
      λ first. lines_at line (count - (i + 1)) (suc v) first.1 >>= λ others. done (first.0 ∷ others.0) others.1 in
      let one : with_front front (lines_at line (count - i) v bytes)
      ≡ (line v bytes >>= λ first. with_front front (go first)) =
      rw k (bind_bind (line v bytes) go (λ x. done (front ++ x.0) x.1)) in
      subst (λ (r : Read (List X)). Fails e r) (sym one ∙ so_far)
      (fails_on e (line v bytes) (λ first. with_front front (go first)) h)

  pub lines_done : (front : List X) (count i v : ℕ) (bytes : List ℕ) (total : Read (List X)) → count ≤ i
      → with_front front (lines_at line (count - i) v bytes) ≡ total → total ≡ Ok (front, bytes)
  unfolding lines_at
  lines_done front count i v bytes total le so_far =
      let k : count - i ≡ 0 = omega arith in
      let one : with_front front (lines_at line (count - i) v bytes) ≡ Ok (front, bytes) =
      rw k (ap (λ (xs : List X). done xs bytes) (append-nil front)) in
      sym so_far ∙ one
