-- All that follows the gates: what is read is spelled so, and what is spelled so is read.
use Rattle.std.proofs.Common.{◌≡◌, ◌≢◌, ℕ, zero, suc, ◌+◌, ◌<◌, ◌≤◌, ◌⊎◌, inl, inr, ltb, Bool, true, false, cond}
use Rattle.std.proofs.Common.{subst, List, [], ◌∷◌, ◌++◌, length, get_or, Option, Some, None, Ok}
use Rattle.std.proofs.Common.{refl, sym, ap, ◌∙◌, append_assoc, arith, Contains, length-append}
use Rattle.std.specs.Prelude.{All, AllPairs}
use Rattle.std.specs.Map.{keys_of}
use Rattle.std.specs.Fmt.{decimal}
use Rattle.std.specs.List.{flat_map}
use Rattle.std.proofs.Math.ListN.{get_or-append}
use Rattle.std.proofs.Math.Seq.{get_or-append_seam}
use Rattle.std.proofs.lemmas.Bool.{ltb-true, ltb-false}
use Rattle.std.proofs.lemmas.List.{append-nil, map-append}
use Rattle.std.proofs.lemmas.List.Concat.{flat_map-cons}
use Rattle.std.proofs.lemmas.List.Elements.{All-nil, All-cons, All-head, All-tail, Contains-get_or}
use Rattle.aig_parts.specs.declared.symbols.Kind.{Kind}
use Rattle.aig_format.specs.declared.reader.header.Counts.{Counts}
use Rattle.aig_format.specs.declared.reader.symbol.Next.{Next}
use Rattle.aig_format.specs.declared.reader.symbol.Next.TheVariants.{End, Comment, Symbol}
use Rattle.aig_format.specs.declared.reader.symbol.Names.{Names}
use Rattle.aig_format.specs.Header.{space, line_end, field}
use Rattle.aig_parts.specs.Letters.{letter}
use Rattle.aig_format.specs.Spelling.{Entry, symbol_line, comment_text, names_text}
use Rattle.aig_format.specs.Spells.{greatest}
use Rattle.aig_format.specs.state.Reading.{◌>>=◌}
use Rattle.aig_format.specs.state.ReadingNames.{Named, letter_at, after_c_at, count_of, symbols_then, symbols_at}
use Rattle.aig_format.specs.state.ReadingNames.{names_at}
use Rattle.aig_format.proofs.Steps.{done, done_is}
use Rattle.aig_format.proofs.Joins.{join2}
use Rattle.aig_format.proofs.Numbers.{bind_then, number_again, stops_space}
use Rattle.aig_format.proofs.Names.{letter_takes, letter_again, starts, IsSymbolEntry, symbol_takes, symbol_again}
use Rattle.aig_format.proofs.Symbols.{shorter, symbol_shorter}

-- ---- each entry is named once

abbrev pub AreOnce : List Entry → Type 0
AreOnce es = AllPairs (λ x y. x ≢ y) (keys_of es)

j_split : (j n : ℕ) → j < n + 1 → (j < n) ⊎ (j ≡ n)
j_split j n lt = by_test (ltb j n) refl
  where
    by_test : (b : Bool) → ltb j n ≡ b → (j < n) ⊎ (j ≡ n)
    by_test true e = inl (ltb-true j n e)
    by_test false e = inr (let le = ltb-false j n e in omega (arith, le, lt))

module _ {X : Type 0} (xs : List X) (x : X) where
  pairs_push : AllPairs (λ x y. x ≢ y) xs → (Contains xs x → ⊥) → AllPairs (λ x y. x ≢ y) (xs ++ x ∷ [])
  pairs_push pairs free i j d lt within same =
      let both = length-append xs (x ∷ []) in
      let before : i < length xs = omega (arith, lt, within, both) in
      let first : get_or (xs ++ x ∷ []) i d ≡ get_or xs i d = get_or-append xs (x ∷ []) d i before in
      by_end (j_split j (length xs) (omega (arith, within, both))) before first
    where
      by_end : ((j < length xs) ⊎ (j ≡ length xs)) → i < length xs → get_or (xs ++ x ∷ []) i d ≡ get_or xs i d → ⊥
      by_end (inl here) before first = pairs i j d lt here (sym first ∙ same ∙ get_or-append xs (x ∷ []) d j here)
      by_end (inr at) before first =
          let last : get_or (xs ++ x ∷ []) j d ≡ x =
          ap (λ (k : ℕ). get_or (xs ++ x ∷ []) k d) at ∙ get_or-append_seam xs x [] d in
          free (subst (Contains xs) (sym first ∙ same ∙ last) (Contains-get_or xs i d before))

  pairs_free : (ys : List X) → AllPairs (λ x y. x ≢ y) (xs ++ x ∷ ys) → Contains xs x → ⊥
  pairs_free ys pairs there =
      let k = there.0 in
      let lt = there.1 in
      let both = length-append xs (x ∷ ys) in
      let first : get_or (xs ++ x ∷ ys) k x ≡ x = get_or-append xs (x ∷ ys) x k lt ∙ there.2 in
      pairs k (length xs) x lt (omega (arith, both)) (first ∙ sym (get_or-append_seam xs x ys x))

pub once_push : (named : List Entry) (e : Entry) → AreOnce named → (Contains (keys_of named) e.0 → ⊥)
    → AreOnce (named ++ e ∷ [])
once_push named e once free =
    subst (λ (ks : List (Kind × ℕ)). AllPairs (λ x y. x ≢ y) ks)
    (sym (map-append (λ (f : Entry). f.0) named (e ∷ []))) (pairs_push (keys_of named) e.0 once free)

pub once_free : (named : List Entry) (e : Entry) (more : List Entry) → AreOnce (named ++ e ∷ more)
    → Contains (keys_of named) e.0 → ⊥
once_free named e more once =
    pairs_free (keys_of named) e.0 (keys_of more)
    (subst (λ (ks : List (Kind × ℕ)). AllPairs (λ x y. x ≢ y) ks)
    (map-append (λ (f : Entry). f.0) named (e ∷ more)) once)

-- ---- symbols

-- where a comment follows, its first line
abbrev pub start : Bool → List ℕ → List ℕ
start true rest = 99 ∷ line_end ∷ rest
start false rest = []

-- the symbols that were read
pub record SymbolsRead (c : Counts) (named : List Entry) (bytes : List ℕ) (all : List Entry) (follows : Bool)
    (rest : List ℕ) : Type 0 where
  pub more : List Entry
  pub adds : all ≡ named ++ more
  pub spelled : bytes ≡ flat_map symbol_line more ++ start follows rest
  pub ends : follows ≡ false → rest ≡ []
  pub fits : All (IsSymbolEntry c) more
  pub once : AreOnce named → AreOnce all

no_more : (c : Counts) (named : List Entry) (bytes : List ℕ) (all : List Entry) (follows f : Bool) (mid rest : List ℕ)
    → bytes ≡ start f mid → (f ≡ false → mid ≡ [])
    → done {A = Named} (named, f) mid ≡ done {A = Named} (all, follows) rest
    → SymbolsRead c named bytes all follows rest
no_more c named bytes all follows f mid rest is ends h =
    let p = done_is {A = Named} (named, f) (all, follows) mid rest h in
    let same : named ≡ all = ap (λ (x : Named). x.0) p.0 in
    let flag : f ≡ follows = ap (λ (x : Named). x.1) p.0 in
    record {
      more = [];
      adds = sym same ∙ sym (append-nil named);
      spelled = is ∙ (λ i. start (flag i) (p.1 i));
      ends = λ e. sym p.1 ∙ ends (flag ∙ e);
      fits = All-nil (IsSymbolEntry c);
      once = λ once. subst AreOnce same once;
    }

pub symbols_take : (c : Counts) (n : ℕ) (named : List Entry) (bytes : List ℕ) (all : List Entry) (follows : Bool)
    (rest : List ℕ) → length bytes ≤ n
    → symbols_at c n named bytes ≡ Ok ((all, follows), rest) → SymbolsRead c named bytes all follows rest
unfolding symbols_at symbols_then
symbols_take c zero named [] all follows rest le h = no_more c named [] all follows false [] rest refl (λ e. refl) h
symbols_take c zero named (x ∷ xs) all follows rest le h = absurd (omega (arith, le))
symbols_take c (suc n) named bytes all follows rest le h =
    bind_then _ _ _ h (λ a ea h1. by_next (λ m b l e. symbols_take c n m b all follows rest l e) a.0 a.1 ea h1)
  where
    by_next : ((m : List Entry) (b : List ℕ) → length b ≤ n → symbols_at c n m b ≡ Ok ((all, follows), rest)
        → SymbolsRead c m b all follows rest) → (next : Next) (mid : List ℕ)
        → letter_at bytes ≡ Ok (next, mid) → symbols_then c named (symbols_at c n) next mid
        ≡ Ok ((all, follows), rest) → SymbolsRead c named bytes all follows rest
    by_next again End mid e g =
        let p = letter_takes bytes End mid e in
        no_more c named bytes all follows false mid rest p.0 (λ e. p.1) g
    by_next again Comment mid e g =
        no_more c named bytes all follows true mid rest (letter_takes bytes Comment mid e) (λ e. absurd cc) g
    by_next again (Symbol kind) mid e g = bind_then _ _ _ g (λ s es g1.
        let t = symbol_takes c named kind mid s.0 s.1 es in
        let r = again s.0 s.1 (omega (arith, le, symbol_shorter c named kind bytes mid s.0 s.1 e es)) g1 in
        let text =
        join2 bytes (symbol_line t.entry) s.1 (flat_map symbol_line r.more) (start follows rest)
        (letter_takes bytes (Symbol kind) mid e ∙ t.spelled) r.spelled in
        record {
          more = t.entry ∷ r.more;
          adds = r.adds ∙ ap (λ (es : List Entry). es ++ r.more) t.adds ∙ append_assoc named (t.entry ∷ []) r.more;
          spelled =
              text ∙ ap (λ (x : List ℕ). x ++ start follows rest) (sym (flat_map-cons symbol_line t.entry r.more));
          ends = r.ends;
          fits = All-cons (IsSymbolEntry c) t.entry r.more t.fits r.fits;
          once = λ once. r.once (subst AreOnce (sym t.adds) (once_push named t.entry once t.free));
        })

-- a symbol's line in pieces
pub symbol_apart : (e : Entry) (rest : List ℕ)
    → symbol_line e ++ rest ≡ letter e.0.0 ∷ (decimal e.0.1 ++ space ∷ (e.1 ++ line_end ∷ rest))
symbol_apart e rest =
    append_assoc (letter e.0.0 ∷ field e.0.1 space ++ e.1) (line_end ∷ []) rest
    ∙ append_assoc (letter e.0.0 ∷ field e.0.1 space) e.1 (line_end ∷ rest)
    ∙ ap (λ (t : List ℕ). letter e.0.0 ∷ t) (append_assoc (decimal e.0.1) (space ∷ []) (e.1 ++ line_end ∷ rest))

pub letter_before : (e : Entry) (after : List ℕ) → e.0.1 ≤ greatest
    → letter_at (letter e.0.0 ∷ (decimal e.0.1 ++ space ∷ after)) ≡ Ok (Symbol e.0.0, decimal e.0.1 ++ space ∷ after)
letter_before e after le =
    let tail : List ℕ = decimal e.0.1 ++ space ∷ after in
    let s = starts greatest tail e.0.1 (space ∷ after)
    (number_again greatest e.0.1 (space ∷ after) le (omega arith) (stops_space after)) in
    ap (λ (t : List ℕ). letter_at (letter e.0.0 ∷ t)) s.2 ∙ letter_again e.0.0 s.0 s.1 s.3
    ∙ ap (λ (t : List ℕ). done (Symbol e.0.0) t) (sym s.2)

pub symbols_again : (c : Counts) (n : ℕ) (named more : List Entry) (follows : Bool) (rest : List ℕ)
    → ((kind : Kind) → count_of c kind ≤ greatest)
    → length (flat_map symbol_line more ++ start follows rest) ≤ n → (follows ≡ false → rest ≡ [])
    → All (IsSymbolEntry c) more → AreOnce (named ++ more)
    → symbols_at c n named (flat_map symbol_line more ++ start follows rest) ≡ Ok ((named ++ more, follows), rest)
unfolding symbols_at symbols_then letter_at after_c_at
symbols_again c zero named [] true rest small le ends fits once = absurd (omega (arith, le))
symbols_again c zero named [] false rest small le ends fits once =
    (λ i. done {A = Named} (sym (append-nil named) i, false) (sym (ends refl) i))
symbols_again c (suc n) named [] true rest small le ends fits once =
    ap (λ (es : List Entry). done {A = Named} (es, true) rest) (sym (append-nil named))
symbols_again c (suc n) named [] false rest small le ends fits once =
    (λ i. done {A = Named} (sym (append-nil named) i, false) (sym (ends refl) i))
symbols_again c zero named (e ∷ more) follows rest small le ends fits once =
    let text : flat_map symbol_line (e ∷ more) ++ start follows rest
    ≡ letter e.0.0 ∷
    (decimal e.0.1 ++ space ∷ (e.1 ++ line_end ∷ (flat_map symbol_line more ++ start follows rest))) =
    ap (λ (x : List ℕ). x ++ start follows rest) (flat_map-cons symbol_line e more)
    ∙ append_assoc (symbol_line e) (flat_map symbol_line more) (start follows rest)
    ∙ symbol_apart e (flat_map symbol_line more ++ start follows rest) in
    let size = ap length text in
    absurd (omega (arith, le, size))
symbols_again c (suc n) named (e ∷ more) follows rest small le ends fits once =
    let after : List ℕ = flat_map symbol_line more ++ start follows rest in
    let text : flat_map symbol_line (e ∷ more) ++ start follows rest
    ≡ letter e.0.0 ∷ (decimal e.0.1 ++ space ∷ (e.1 ++ line_end ∷ after)) =
    ap (λ (x : List ℕ). x ++ start follows rest) (flat_map-cons symbol_line e more)
    ∙ append_assoc (symbol_line e) (flat_map symbol_line more) (start follows rest)
    ∙ symbol_apart e after in
    let size = ap length text in
    let deep : length after ≤ length (decimal e.0.1 ++ space ∷ (e.1 ++ line_end ∷ after)) =
    shorter _ (decimal e.0.1 ++ (space ∷ (e.1 ++ line_end ∷ []))) after (deep_is (decimal e.0.1) e.1 after) in
    let here = All-head (IsSymbolEntry c) e more fits in
    let within : e.0.1 ≤ greatest = omega (arith, here.there, small e.0.0) in
    let regrouped : named ++ (e ∷ more) ≡ (named ++ e ∷ []) ++ more = sym (append_assoc named (e ∷ []) more) in
    let rec : symbols_at c n (named ++ e ∷ []) after ≡ Ok ((((named ++ e ∷ []) ++ more), follows), rest) =
    symbols_again c n (named ++ e ∷ []) more follows rest small (omega (arith, le, size, deep)) ends
    (All-tail (IsSymbolEntry c) e more fits) (subst AreOnce regrouped once) in
    ap (symbols_at c (suc n) named) text
    ∙ rw (
      letter_before e (e.1 ++ line_end ∷ after) within,
      symbol_again c named e.0.0 e.0.1 e.1 after within here.there here.named (once_free named e more once),
    )
    (rec ∙ ap (λ (es : List Entry). done {A = Named} (es, follows) rest) (sym regrouped))
  where
    deep_is : (d m a : List ℕ) → d ++ space ∷ (m ++ line_end ∷ a) ≡ (d ++ (space ∷ (m ++ line_end ∷ []))) ++ a
    deep_is d m a =
        sym (append_assoc d (space ∷ (m ++ line_end ∷ [])) a
        ∙ ap (λ (t : List ℕ). d ++ space ∷ t) (append_assoc m (line_end ∷ []) a))

-- ---- names

-- the names that were read
pub record NamesRead (c : Counts) (bytes : List ℕ) (names : Names) (rest : List ℕ) : Type 0 where
  pub spelled : bytes ≡ names_text names.symbols names.comment
  pub end : rest ≡ []
  pub fits : All (IsSymbolEntry c) names.symbols
  pub once : AreOnce names.symbols

pub names_take : (c : Counts) (bytes : List ℕ) (names : Names) (rest : List ℕ) → names_at c bytes ≡ Ok (names, rest)
    → NamesRead c bytes names rest
unfolding names_at names_text
names_take c bytes names rest h = bind_then _ _ _ h (λ s es h1. by_comment s.0.0 s.0.1 s.1 es h1)
  where
    none : AreOnce []
    none = λ i j d lt within. absurd (omega (arith, within))

    by_comment : (all : List Entry) (follows : Bool) (left : List ℕ) → symbols_at c (length bytes) [] bytes
        ≡ Ok ((all, follows), left)
        → cond follows (done {A = Names} (record { symbols = all; comment = Some left }) [])
        (done {A = Names} (record { symbols = all; comment = None }) left) ≡ Ok (names, rest)
        → NamesRead c bytes names rest
    by_comment all true left e g =
        let p = done_is {A = Names} (record { symbols = all; comment = Some left }) names [] rest g in
        let r = symbols_take c (length bytes) [] bytes all true left (omega arith) e in
        subst (λ (k : Names). NamesRead c bytes k rest) p.0 (record {
          spelled = r.spelled ∙ ap (λ (es : List Entry). flat_map symbol_line es ++ 99 ∷ line_end ∷ left) (sym r.adds);
          end = sym p.1;
          fits = subst (All (IsSymbolEntry c)) (sym r.adds) r.fits;
          once = r.once none;
        })
    by_comment all false left e g =
        let p = done_is {A = Names} (record { symbols = all; comment = None }) names left rest g in
        let r = symbols_take c (length bytes) [] bytes all false left (omega arith) e in
        subst (λ (k : Names). NamesRead c bytes k rest) p.0 (record {
          spelled = r.spelled ∙ ap (λ (es : List Entry). flat_map symbol_line es ++ []) (sym r.adds);
          end = sym p.1 ∙ r.ends refl;
          fits = subst (All (IsSymbolEntry c)) (sym r.adds) r.fits;
          once = r.once none;
        })

pub names_again : (c : Counts) (names : Names) → ((kind : Kind) → count_of c kind ≤ greatest)
    → All (IsSymbolEntry c) names.symbols → AreOnce names.symbols
    → names_at c (names_text names.symbols names.comment) ≡ Ok (names, [])
unfolding names_at names_text
names_again c names small fits once = by_comment names.symbols names.comment fits once
  where
    by_comment : (symbols : List Entry) (comment : Option (List ℕ)) → All (IsSymbolEntry c) symbols → AreOnce symbols
        → (symbols_at c (length (flat_map symbol_line symbols ++ comment_text comment)) []
        (flat_map symbol_line symbols ++ comment_text comment)
        >>= λ s. cond s.0.1 (done {A = Names} (record { symbols = s.0.0; comment = Some s.1 }) [])
        (done {A = Names} (record { symbols = s.0.0; comment = None }) s.1))
        ≡ Ok (record { symbols = symbols; comment = comment }, [])
    by_comment symbols None fits once =
        rw (symbols_again c (length (flat_map symbol_line symbols ++ [])) [] symbols false [] small (omega arith)
        (λ e. refl) fits once) refl
    by_comment symbols (Some bytes) fits once =
        rw (symbols_again c (length (flat_map symbol_line symbols ++ 99 ∷ line_end ∷ bytes)) [] symbols true bytes
        small (omega arith) (λ e. absurd cc) fits once) refl
