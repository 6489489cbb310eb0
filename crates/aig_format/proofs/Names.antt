-- A symbol that is read is spelled so, and a symbol that is spelled so is read.
use Rattle.std.proofs.Common.{◌≡◌, ◌≢◌, ℕ, ◌-◌, ◌<◌, ◌≤◌, Bool, true, false, cond, eqb, leb}
use Rattle.std.proofs.Common.{◌||◌, subst, List, [], ◌∷◌, ◌++◌, length, Option, Some, None, Ok, Err, refl}
use Rattle.std.proofs.Common.{sym, ap, ◌∙◌, append_assoc, arith, Contains}
use Rattle.std.specs.Prelude.{All}
use Rattle.std.specs.Map.{keys_of}
use Rattle.std.specs.Fmt.{decimal}
use Rattle.std.proofs.lemmas.Bool.{eqb-true}
use Rattle.std.proofs.lemmas.Bool.Decides.{nat_tests}
use Rattle.std.proofs.lemmas.List.Elements.{All-nil, All-cons, All-head, All-tail}
use Rattle.aig_parts.specs.declared.symbols.Kind.{Kind}
use Rattle.aig_parts.specs.declared.symbols.Kind.TheVariants.{Input, Latch, Output, Bad, Constraint, Justice, Fairness}
use Rattle.aig_parts.specs.Formed.{IsName}
use Rattle.aig_format.specs.declared.reader.header.Counts.{Counts}
use Rattle.aig_format.specs.declared.reader.symbol.Next.{Next}
use Rattle.aig_format.specs.declared.reader.symbol.Next.TheVariants.{End, Comment, Symbol}
use Rattle.aig_format.specs.Header.{space, line_end, field}
use Rattle.aig_parts.specs.Letters.{letter}
use Rattle.aig_format.specs.Spelling.{Entry, symbol_line}
use Rattle.aig_format.specs.Spells.{greatest}
use Rattle.aig_format.specs.state.Reading.{text, ◌>>=◌, is_digit, digit_at, number_then, number_at}
use Rattle.aig_format.specs.state.ReadingNames.{kind_of, after_c_at, letter_then, letter_at, line_at, is_empty, name_at}
use Rattle.aig_format.specs.state.ReadingNames.{is_named, count_of, position_at, symbol_at}
use Rattle.aig_format.proofs.Steps.{done, done_is}
use Rattle.aig_format.proofs.Numbers.{bind_then, byte_takes, byte_again, number_takes, number_again, Stops}
use Rattle.aig_format.proofs.Numbers.{stops_space}
use Rattle.aig_format.proofs.Keys.{is_named_from, not_named_from}

-- ---- names

abbrev pub NoLine : List ℕ → Type 0
NoLine name = All (λ b. b ≢ 10) name

line_takes : (bytes name rest : List ℕ) → line_at bytes ≡ Ok (name, rest) → (bytes ≡ name ++ line_end ∷ rest)
    × NoLine name
unfolding line_at
line_takes [] name rest h = absurd cc
line_takes (x ∷ xs) name rest h = by_test (λ n r e. line_takes xs n r e) (eqb x line_end) refl h
  where
    by_test : ((n r : List ℕ) → line_at xs ≡ Ok (n, r) → (xs ≡ n ++ line_end ∷ r) × NoLine n) → (t : Bool)
        → eqb x line_end ≡ t
        → cond t (done [] xs) (line_at xs >>= λ others. done (x ∷ others.0) others.1) ≡ Ok (name, rest)
        → (x ∷ xs ≡ name ++ line_end ∷ rest) × NoLine name
    by_test again true e h =
        let p = done_is [] name xs rest h in
        let same : x ≡ line_end = eqb-true x line_end e in
        let P : List ℕ → Type 0 = λ n. (x ∷ xs ≡ n ++ line_end ∷ rest) × NoLine n in
        subst P p.0 ((λ i. same i ∷ p.1 i), All-nil (λ (b : ℕ). b ≢ 10))
    by_test again false e h = bind_then _ _ _ h (λ o eo h1.
        let p = done_is (x ∷ o.0) name o.1 rest h1 in
        let q = again o.0 o.1 eo in
        let other : x ≢ 10 =
        λ same. (let clash : eqb x 10 ≡ true = grind (arith, nat_tests) in let both = sym clash ∙ e in absurd cc) in
        let P : List ℕ → Type 0 = λ n. (x ∷ xs ≡ n ++ line_end ∷ rest) × NoLine n in
        subst P p.0 (
          ap (λ (t : List ℕ). x ∷ t) (q.0 ∙ ap (λ (r : List ℕ). o.0 ++ line_end ∷ r) p.1),
          All-cons (λ (b : ℕ). b ≢ 10) x o.0 other q.1,
        ))

line_again : (name rest : List ℕ) → NoLine name → line_at (name ++ line_end ∷ rest) ≡ Ok (name, rest)
unfolding line_at
line_again [] rest fits = refl
line_again (x ∷ xs) rest fits =
    let head = All-head (λ (b : ℕ). b ≢ 10) x xs fits in
    let other : eqb x line_end ≡ false = grind (arith, nat_tests) in
    rw (other, line_again xs rest (All-tail (λ (b : ℕ). b ≢ 10) x xs fits)) refl

pub name_takes : (bytes name rest : List ℕ) → name_at bytes ≡ Ok (name, rest) → (bytes ≡ name ++ line_end ∷ rest)
    × IsName name
unfolding name_at
name_takes bytes name rest h = bind_then _ _ _ h (λ n en h1. by_empty n.0 n.1 en h1)
  where
    by_empty : (n r : List ℕ) → line_at bytes ≡ Ok (n, r) → cond (is_empty n) (Err text) (done n r) ≡ Ok (name, rest)
        → (bytes ≡ name ++ line_end ∷ rest) × IsName name
    by_empty [] r e g = absurd cc
    by_empty (y ∷ ys) r e g =
        let p = done_is (y ∷ ys) name r rest g in
        let q = line_takes bytes (y ∷ ys) r e in
        let some : 0 < length (y ∷ ys) = omega arith in
        let P : List ℕ → Type 0 = λ n. (bytes ≡ n ++ line_end ∷ rest) × IsName n in
        subst P p.0 (q.0 ∙ ap (λ (t : List ℕ). (y ∷ ys) ++ line_end ∷ t) p.1, (some, q.1))

pub name_again : (name rest : List ℕ) → IsName name → name_at (name ++ line_end ∷ rest) ≡ Ok (name, rest)
unfolding name_at
name_again [] rest fits = absurd (omega (arith, fits.0))
name_again (x ∷ xs) rest fits = rw (line_again (x ∷ xs) rest fits.1) refl

-- ---- letters

-- what was read of a letter
abbrev pub Letters : List ℕ → Next → List ℕ → Type 0
Letters bytes End rest = (bytes ≡ []) × (rest ≡ [])
Letters bytes Comment rest = bytes ≡ 99 ∷ line_end ∷ rest
Letters bytes (Symbol kind) rest = bytes ≡ letter kind ∷ rest

after_c_takes : (bytes : List ℕ) (next : Next) (rest : List ℕ) → after_c_at bytes ≡ Ok (next, rest)
    → Letters (99 ∷ bytes) next rest
unfolding after_c_at
after_c_takes [] next rest h = absurd cc
after_c_takes (x ∷ xs) next rest h = by_end (eqb x line_end) refl h
  where
    by_digit : (t : Bool) → cond t (done (Symbol Constraint) (x ∷ xs)) (Err text) ≡ Ok (next, rest)
        → Letters (99 ∷ x ∷ xs) next rest
    by_digit true g =
        let p = done_is (Symbol Constraint) next (x ∷ xs) rest g in
        subst (λ (n : Next). Letters (99 ∷ x ∷ xs) n rest) p.0 (ap (λ (t : List ℕ). 99 ∷ t) p.1)
    by_digit false g = absurd cc

    by_end : (t : Bool) → eqb x line_end ≡ t
        → cond t (done Comment xs) (cond (is_digit x) (done (Symbol Constraint) (x ∷ xs)) (Err text))
        ≡ Ok (next, rest) → Letters (99 ∷ x ∷ xs) next rest
    by_end true e g =
        let p = done_is Comment next xs rest g in
        let same : x ≡ line_end = eqb-true x line_end e in
        subst (λ (n : Next). Letters (99 ∷ x ∷ xs) n rest) p.0 (λ i. 99 ∷ same i ∷ p.1 i)
    by_end false e g = by_digit (is_digit x) g

level : (x n : ℕ) (k : Kind) (other : Option Kind) (kind : Kind) → letter k ≡ n → cond (eqb x n) (Some k) other
    ≡ Some kind
    → (other ≡ Some kind → x ≡ letter kind) → x ≡ letter kind
level x n k other kind is h more = by_test (eqb x n) refl h
  where
    by_test : (t : Bool) → eqb x n ≡ t → cond t (Some k) other ≡ Some kind → x ≡ letter kind
    by_test true e g = let same : k ≡ kind = cc in eqb-true x n e ∙ sym is ∙ ap letter same
    by_test false e g = more g

pub kind_takes : (x : ℕ) (kind : Kind) → kind_of x ≡ Some kind → x ≡ letter kind
kind_takes x kind h =
    level x 105 Input _ kind refl h
    (λ h1. level x 108 Latch _ kind refl h1 (λ h2. level x 111 Output _ kind refl h2 (λ h3.
    level x 98 Bad _ kind refl h3
    (λ h4. level x 106 Justice _ kind refl h4 (λ h5. level x 102 Fairness _ kind refl h5 (λ h6. absurd cc))))))

pub letter_takes : (bytes : List ℕ) (next : Next) (rest : List ℕ) → letter_at bytes ≡ Ok (next, rest)
    → Letters bytes next rest
unfolding letter_at
letter_takes [] next rest h =
    let p = done_is End next [] rest h in
    subst (λ (n : Next). Letters [] n rest) p.0 (refl, sym p.1)
letter_takes (x ∷ xs) next rest h = by_c (eqb x 99) refl h
  where
    by_kind : (o : Option Kind) → kind_of x ≡ o → letter_then o xs ≡ Ok (next, rest) → Letters (x ∷ xs) next rest
    by_kind None e g = absurd cc
    by_kind (Some kind) e g =
        let p = done_is (Symbol kind) next xs rest g in
        let same : x ≡ letter kind = kind_takes x kind e in
        subst (λ (n : Next). Letters (x ∷ xs) n rest) p.0 (λ i. same i ∷ p.1 i)

    by_c : (t : Bool) → eqb x 99 ≡ t → cond t (after_c_at xs) (letter_then (kind_of x) xs) ≡ Ok (next, rest)
        → Letters (x ∷ xs) next rest
    by_c true e g =
        let same : x ≡ 99 = eqb-true x 99 e in
        subst (λ (y : ℕ). Letters (y ∷ xs) next rest) (sym same) (after_c_takes xs next rest g)
    by_c false e g = by_kind (kind_of x) refl g

pub letter_again : (kind : Kind) (d : ℕ) (rest : List ℕ) → is_digit d ≡ true → letter_at (letter kind ∷ d ∷ rest)
    ≡ Ok (Symbol kind, d ∷ rest)
unfolding letter_at after_c_at
letter_again Input d rest digit = refl
letter_again Latch d rest digit = refl
letter_again Output d rest digit = refl
letter_again Bad d rest digit = refl
letter_again Justice d rest digit = refl
letter_again Fairness d rest digit = refl
letter_again Constraint d rest digit =
    let other : eqb d line_end ≡ false = grind (arith, nat_tests) in
    rw (other, digit) refl

-- ---- positions

pub position_takes : (c : Counts) (named : List Entry) (kind : Kind) (bytes : List ℕ) (p : ℕ) (rest : List ℕ)
    → position_at c named kind bytes ≡ Ok (p, rest)
    → (bytes ≡ decimal p ++ rest) × (p < count_of c kind) × (Contains (keys_of named) (kind, p) → ⊥)
unfolding position_at
position_takes c named kind bytes p rest h =
    bind_then _ _ _ h (λ n en h1. by_test n.0 n.1 en (leb (count_of c kind) n.0) (is_named kind n.0 named) refl refl h1)
  where
    by_test : (m : ℕ) (r : List ℕ) → number_at greatest bytes ≡ Ok (m, r) → (s t : Bool) → leb (count_of c kind) m ≡ s
        → is_named kind m named ≡ t
        → cond (s || t) (Err text) (done m r) ≡ Ok (p, rest) → (bytes ≡ decimal p ++ rest) × (p < count_of c kind)
        × (Contains (keys_of named) (kind, p) → ⊥)
    by_test m r e true t s1 t1 g = absurd cc
    by_test m r e false true s1 t1 g = absurd cc
    by_test m r e false false s1 t1 g =
        let q = done_is m p r rest g in
        let n = number_takes greatest bytes m r (omega arith) (omega arith) e in
        let lt : m < count_of c kind = grind (arith, nat_tests) in
        let P : ℕ → Type 0 =
        λ k. (bytes ≡ decimal k ++ rest) × (k < count_of c kind) × (Contains (keys_of named) (kind, k) → ⊥) in
        subst P q.0 (
          n.0 ∙ ap (λ (t : List ℕ). decimal m ++ t) q.1,
          lt,
          λ there. (let both = sym (is_named_from kind m named there) ∙ t1 in absurd cc),
        )

pub position_again : (c : Counts) (named : List Entry) (kind : Kind) (p : ℕ) (rest : List ℕ) → p ≤ greatest
    → p < count_of c kind
    → (Contains (keys_of named) (kind, p) → ⊥) → Stops rest → position_at c named kind (decimal p ++ rest)
    ≡ Ok (p, rest)
unfolding position_at
position_again c named kind p rest le lt free stops =
    let within : leb (count_of c kind) p ≡ false = grind (arith, nat_tests) in
    rw (number_again greatest p rest le (omega arith) stops, within, not_named_from kind p named free) refl

-- a number begins with a digit
pub starts : (bound : ℕ) (bytes : List ℕ) (n : ℕ) (rest : List ℕ) → number_at bound bytes ≡ Ok (n, rest)
    → (d : ℕ) × (more : List ℕ) × (bytes ≡ d ∷ more) × (is_digit d ≡ true)
unfolding number_at number_then digit_at
starts bound [] n rest h = absurd cc
starts bound (x ∷ xs) n rest h = by_digit (is_digit x) refl h
  where
    by_digit : (t : Bool) → is_digit x ≡ t
        → (cond t (done (Some (x - 48)) xs) (done None (x ∷ xs)) >>= λ first. number_then bound first.0 first.1)
        ≡ Ok (n, rest)
        → (d : ℕ) × (more : List ℕ) × (x ∷ xs ≡ d ∷ more) × (is_digit d ≡ true)
    by_digit true e g = (x, xs, refl, e)
    by_digit false e g = absurd cc

-- ---- symbols

-- what an entry of a symbol is, besides being new
pub record IsSymbolEntry (c : Counts) (e : Entry) : Type 0 where
  pub there : e.0.1 < count_of c e.0.0
  pub named : IsName e.1

-- the symbol that was read
pub record Symbols (c : Counts) (named : List Entry) (kind : Kind) (bytes : List ℕ) (all : List Entry)
    (rest : List ℕ) : Type 0 where
  pub entry : Entry
  pub adds : all ≡ named ++ entry ∷ []
  pub spelled : letter kind ∷ bytes ≡ symbol_line entry ++ rest
  pub fits : IsSymbolEntry c entry
  pub free : Contains (keys_of named) entry.0 → ⊥

symbol_joins : (l : ℕ) (bytes n s m r rest : List ℕ) (p : ℕ) → bytes ≡ decimal p ++ s → s ≡ space ∷ m
    → m ≡ n ++ line_end ∷ r → r ≡ rest
    → l ∷ bytes ≡ (l ∷ field p space ++ n ++ line_end ∷ []) ++ rest
symbol_joins l bytes n s m r rest p e1 e2 e3 e4 =
    let one : bytes ≡ decimal p ++ space ∷ (n ++ line_end ∷ rest) = rw (e1, e2, e3, e4) refl in
    let two : (l ∷ field p space ++ n ++ line_end ∷ []) ++ rest ≡ l ∷ (decimal p ++ space ∷ (n ++ line_end ∷ rest)) =
    append_assoc (l ∷ field p space ++ n) (line_end ∷ []) rest ∙ append_assoc (l ∷ field p space) n (line_end ∷ rest)
    ∙ ap (λ (t : List ℕ). l ∷ t) (append_assoc (decimal p) (space ∷ []) (n ++ line_end ∷ rest)) in
    ap (λ (t : List ℕ). l ∷ t) one ∙ sym two

pub symbol_takes : (c : Counts) (named : List Entry) (kind : Kind) (bytes : List ℕ) (all : List Entry) (rest : List ℕ)
    → symbol_at c named kind bytes ≡ Ok (all, rest)
    → Symbols c named kind bytes all rest
unfolding symbol_at
symbol_takes c named kind bytes all rest h =
    bind_then _ _ _ h (λ p ep h1. bind_then _ _ _ h1 (λ b eb h2. bind_then _ _ _ h2 (λ n en h3.
    let q = done_is (named ++ ((kind, p.0), n.0) ∷ []) all n.1 rest h3 in
    let tp = position_takes c named kind bytes p.0 p.1 ep in
    let tn = name_takes b.1 n.0 n.1 en in
    record {
      entry = ((kind, p.0), n.0);
      adds = sym q.0;
      spelled =
          symbol_joins (letter kind) bytes n.0 p.1 b.1 n.1 rest p.0 tp.0 (byte_takes space p.1 b.0 b.1 eb) tn.0 q.1;
      fits = record { there = tp.1; named = tn.1 };
      free = tp.2;
    })))

pub symbol_again : (c : Counts) (named : List Entry) (kind : Kind) (p : ℕ) (name rest : List ℕ) → p ≤ greatest
    → p < count_of c kind → IsName name
    → (Contains (keys_of named) (kind, p) → ⊥)
    → symbol_at c named kind (decimal p ++ space ∷ (name ++ line_end ∷ rest))
    ≡ Ok (named ++ ((kind, p), name) ∷ [], rest)
unfolding symbol_at
symbol_again c named kind p name rest le lt fits free =
    let after : List ℕ = name ++ line_end ∷ rest in
    rw (
      position_again c named kind p (space ∷ after) le lt free (stops_space after),
      byte_again space after,
      name_again name rest fits,
    ) refl
