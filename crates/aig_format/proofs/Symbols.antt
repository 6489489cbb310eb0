-- The symbols that are read are spelled so, and the symbols that are spelled so are read.
use Rattle.std.proofs.Common.{◌≡◌, ℕ, zero, suc, ◌+◌, ◌<◌, ◌≤◌, true, false, subst, List, [], ◌∷◌}
use Rattle.std.proofs.Common.{◌++◌, length, Ok, refl, sym, ap, ◌∙◌}
use Rattle.std.proofs.Common.{arith, length-append}
use Rattle.std.specs.Fmt.{decimal}
use Rattle.aig_parts.specs.declared.fault.Fault.{Fault}
use Rattle.aig_parts.specs.declared.symbols.Kind.{Kind}
use Rattle.aig_format.specs.declared.reader.header.Counts.{Counts}
use Rattle.aig_format.specs.declared.reader.symbol.Next.{Next}
use Rattle.aig_format.specs.declared.reader.symbol.Next.TheVariants.{End, Comment, Symbol}
use Rattle.aig_format.specs.Header.{space, line_end}
use Rattle.aig_format.specs.Spelling.{Entry, symbol_line}
use Rattle.aig_format.specs.state.Reading.{Read}
use Rattle.aig_format.specs.state.ReadingNames.{Named, letter_at, symbol_at, symbols_then, symbols_at}
use Rattle.aig_format.specs.state.ReaderAnswers.{Fails}
use Rattle.aig_format.proofs.Steps.{done, fails_on, fails_else}
use Rattle.aig_format.proofs.Names.{letter_takes, symbol_takes}

-- ---- how reading goes on

-- there are symbols enough to be read for the bytes that are left, and reading them gives what reading all gives
pub record GoesOn (c : Counts) (named : List Entry) (bytes : List ℕ) (total : Read Named) : Type 0 where
  pub fuel : ℕ
  pub enough : length bytes ≤ fuel
  pub same : symbols_at c fuel named bytes ≡ total

abbrev goes : Counts → ℕ → List Entry → Next × List ℕ → Read Named
goes c n named next = symbols_then c named (symbols_at c n) next.0 next.1

-- what is left is no longer than what was there
pub shorter : (bytes front rest : List ℕ) → bytes ≡ front ++ rest → length rest ≤ length bytes
shorter bytes front rest e =
    let both : length bytes ≡ length front + length rest = ap length e ∙ length-append front rest in
    omega (arith, both)

fail_at : (e : Fault) (c : Counts) (n : ℕ) (named : List Entry) (bytes : List ℕ) → length bytes ≤ n
    → Fails e (letter_at bytes) → Fails e (symbols_at c n named bytes)
unfolding symbols_at letter_at
fail_at e c zero named [] le h = fails_else e (letter_at []) (End, []) (symbols_at c 0 named []) refl h
fail_at e c zero named (x ∷ xs) le h = absurd (omega (arith, le))
fail_at e c (suc n) named bytes le h = fails_on e (letter_at bytes) (goes c n named) h

end_at : (c : Counts) (n : ℕ) (named : List Entry) (bytes rest : List ℕ) → letter_at bytes ≡ Ok (End, rest)
    → symbols_at c n named bytes ≡ Ok ((named, false), rest)
unfolding symbols_at symbols_then
end_at c zero named bytes rest h = let p =
    letter_takes bytes End rest h in ap (λ (t : List ℕ). done (named, false) t) (p.0 ∙ sym p.1)
end_at c (suc n) named bytes rest h = rw h refl

comment_at : (c : Counts) (n : ℕ) (named : List Entry) (bytes rest : List ℕ) → length bytes ≤ n
    → letter_at bytes ≡ Ok (Comment, rest) → symbols_at c n named bytes ≡ Ok ((named, true), rest)
unfolding symbols_at symbols_then
comment_at c zero named bytes rest le h =
    let p = ap length (letter_takes bytes Comment rest h) in absurd (omega (arith, le, p))
comment_at c (suc n) named bytes rest le h = rw h refl

pub goes_fail : (e : Fault) (c : Counts) (named : List Entry) (bytes : List ℕ) (total : Read Named)
    → GoesOn c named bytes total → Fails e (letter_at bytes) → Fails e total
goes_fail e c named bytes total go h =
    subst (λ (r : Read Named). Fails e r) go.same (fail_at e c go.fuel named bytes go.enough h)

pub goes_end : (c : Counts) (named : List Entry) (bytes rest : List ℕ) (total : Read Named)
    → GoesOn c named bytes total → letter_at bytes ≡ Ok (End, rest)
    → total ≡ Ok ((named, false), rest)
goes_end c named bytes rest total go h = sym go.same ∙ end_at c go.fuel named bytes rest h

pub goes_comment : (c : Counts) (named : List Entry) (bytes rest : List ℕ) (total : Read Named)
    → GoesOn c named bytes total → letter_at bytes ≡ Ok (Comment, rest)
    → total ≡ Ok ((named, true), rest)
goes_comment c named bytes rest total go h = sym go.same ∙ comment_at c go.fuel named bytes rest go.enough h

symbol_fail_at : (e : Fault) (c : Counts) (n : ℕ) (named : List Entry) (kind : Kind) (bytes rest : List ℕ)
    → length bytes ≤ n → letter_at bytes ≡ Ok (Symbol kind, rest)
    → Fails e (symbol_at c named kind rest) → Fails e (symbols_at c n named bytes)
unfolding symbols_at symbols_then
symbol_fail_at e c zero named kind bytes rest le h bad =
    let p = ap length (letter_takes bytes (Symbol kind) rest h) in absurd (omega (arith, le, p))
symbol_fail_at e c (suc n) named kind bytes rest le h bad =
    rw h (fails_on e (symbol_at c named kind rest) (λ entries. symbols_at c n entries.0 entries.1) bad)

pub goes_symbol_fail : (e : Fault) (c : Counts) (named : List Entry) (kind : Kind) (bytes rest : List ℕ)
    (total : Read Named) → GoesOn c named bytes total
    → letter_at bytes ≡ Ok (Symbol kind, rest) → Fails e (symbol_at c named kind rest) → Fails e total
goes_symbol_fail e c named kind bytes rest total go h bad =
    subst (λ (r : Read Named). Fails e r) go.same (symbol_fail_at e c go.fuel named kind bytes rest go.enough h bad)

pub symbol_shorter : (c : Counts) (named : List Entry) (kind : Kind) (bytes rest : List ℕ) (all : List Entry)
    (after : List ℕ) → letter_at bytes ≡ Ok (Symbol kind, rest)
    → symbol_at c named kind rest ≡ Ok (all, after) → length after < length bytes
symbol_shorter c named kind bytes rest all after h s =
    let p = ap length (letter_takes bytes (Symbol kind) rest h) in
    let q = symbol_takes c named kind rest all after s in
    let both = ap length q.spelled ∙ length-append (symbol_line q.entry) after in
    let some : length (symbol_line q.entry)
    ≡ suc (length (decimal q.entry.0.1 ++ space ∷ [] ++ q.entry.1 ++ line_end ∷ [])) = refl in
    omega (arith, p, both, some)

on_at : (c : Counts) (n : ℕ) (named : List Entry) (kind : Kind) (bytes rest : List ℕ) (all : List Entry)
    (after : List ℕ) (total : Read Named) → length bytes ≤ n
    → letter_at bytes ≡ Ok (Symbol kind, rest) → symbol_at c named kind rest ≡ Ok (all, after)
    → symbols_at c n named bytes ≡ total → GoesOn c all after total
unfolding symbols_at symbols_then
on_at c zero named kind bytes rest all after total le h s so_far =
    let p = ap length (letter_takes bytes (Symbol kind) rest h) in absurd (omega (arith, le, p))
on_at c (suc n) named kind bytes rest all after total le h s so_far =
    let one : symbols_at c (suc n) named bytes ≡ symbols_at c n all after = rw (h, s) refl in
    record {
      fuel = n;
      enough = omega (arith, le, symbol_shorter c named kind bytes rest all after h s);
      same =
          sym one ∙ so_far;
    }

pub goes_on : (c : Counts) (named : List Entry) (kind : Kind) (bytes rest : List ℕ) (all : List Entry)
    (after : List ℕ) (total : Read Named) → GoesOn c named bytes total
    → letter_at bytes ≡ Ok (Symbol kind, rest) → symbol_at c named kind rest ≡ Ok (all, after)
    → GoesOn c all after total
goes_on c named kind bytes rest all after total go h s =
    on_at c go.fuel named kind bytes rest all after total go.enough h s go.same
