-- Where the clauses of a variable begin.
use Rattle.std.proofs.Common.{◌≡◌, inl, inr, ℕ, ◌+◌, ◌<◌, ◌≤◌, Bool, List, [], ◌∷◌, ◌++◌, length, get_or, set}
use Rattle.std.proofs.Common.{true, false, cond, subst, sym, ap, ◌∙◌, arith, length-append}
use Rattle.std.proofs.lemmas.List.{length-set, get_or_append_left, get_or_past, get_or-set_same, get_or-set_other}
use Rattle.std.proofs.Math.Seq.{get_or-append_seam}
use Rattle.std.proofs.lemmas.Bool.{cases_eq}
use Rattle.aig_parts.specs.Literal.{variable}
use Rattle.aig_sat.specs.declared.checker.propagator.Propagator.{Propagator}
use Rattle.aig_sat.specs.checker.First.{IsSettled}
use Rattle.aig_sat.specs.checker.Words.{AreLiterals, Begins, IsLaidOut, IsLast, Shrinks, StandsAt, literal_at, size_at}
use Rattle.aig_sat.proofs.checking.PutLemmas.{append_shrinks}

-- it stays so where no clause is added
pub begins_then : (starts : List ℕ) (named : ℕ) (old new : List ℕ) → Shrinks old new → length old ≤ length new
    → Begins starts named old → Begins starts named new
begins_then starts named old new s len b = record {
  before = λ p k stands inside.
      let e : get_or new p 0 ≡ get_or old p 0 = s.heads p stands in
      let (j, within, same) = s.had p k stands inside in
      let was = b.before p j (omega (arith, e, stands)) within in
      let at : get_or starts (variable (literal_at old p j)) 0 ≡ get_or starts (variable (literal_at new p k)) 0 =
      ap (λ m. get_or starts (variable m) 0) same in
      let name : variable (literal_at old p j) ≡ variable (literal_at new p k) = ap variable same in
      (omega (arith, name, was.0), omega (arith, at, was.1));
  within = λ x. omega (arith, b.within x, len);
}

pub append_begins : (starts : List ℕ) (named : ℕ) (words tail : List ℕ) → IsLaidOut words → AreLiterals tail
    → Begins starts named words → Begins starts named (words ++ tail)
append_begins starts named words tail laid small =
    begins_then starts named words (words ++ tail) (append_shrinks words tail laid small) (omega (arith, length-append words tail))

pub appended_begins : (b : Bool) (starts : List ℕ) (named : ℕ) (words tail new : List ℕ) → IsLaidOut words → AreLiterals tail
    → new ≡ cond b (words ++ tail) words → Begins starts named words → Begins starts named new
appended_begins true starts named words tail new laid small e b =
    subst (Begins starts named) (sym e) (append_begins starts named words tail laid small b)
appended_begins false starts named words tail new laid small e b = subst (Begins starts named) (sym e) b

-- the last clause stands from now on
pub stand_begins : (starts : List ℕ) (named : ℕ) (words : List ℕ) (n size : ℕ) → IsLast words n size → Begins starts named words
    → ((x : ℕ) → get_or starts x 0 ≤ n) → ((k : ℕ) → k < size → variable (literal_at words n k) < named)
    → Begins starts named (set words n (0x8000_0000 + size))
stand_begins starts named words n size is b begun are_named = record {
  before = λ p k now inside.
      let x = 0x8000_0000 + size in
      let here : n < length words = omega (arith, is.len) in
      elim (cases_eq p n) [
        | inl e ↦
            let head : get_or (set words n x) p 0 ≡ x = ap (λ i. get_or (set words n x) i 0) e ∙ get_or-set_same words n x 0 here in
            let same : get_or (set words n x) (p + (3 + k)) 0 ≡ get_or words (n + (3 + k)) 0 =
            get_or-set_other words n (p + (3 + k)) x 0 (omega (arith, e)) ∙ ap (λ i. get_or words (i + (3 + k)) 0) e in
            let name : variable (literal_at (set words n x) p k) ≡ variable (literal_at words n k) = ap variable same in
            (omega (arith, name, are_named k (omega (arith, head, inside))), omega (arith, e, begun (variable (literal_at (set words n x) p k))))
        | inr ne ↦
            let head : get_or (set words n x) p 0 ≡ get_or words p 0 = get_or-set_other words n p x 0 ne in
            let stands : StandsAt words p = omega (arith, head, now) in
            let within : k < size_at words p = omega (arith, head, inside) in
            let same : get_or (set words n x) (p + (3 + k)) 0 ≡ get_or words (p + (3 + k)) 0 =
            get_or-set_other words n (p + (3 + k)) x 0 (omega (arith, is.ends p stands, within)) in
            let name : variable (literal_at (set words n x) p k) ≡ variable (literal_at words p k) = ap variable same in
            let at : get_or starts (variable (literal_at (set words n x) p k)) 0 ≡ get_or starts (variable (literal_at words p k)) 0 =
            ap (λ m. get_or starts (variable m) 0) same in
            let was = b.before p k stands within in
            (omega (arith, name, was.0), omega (arith, at, was.1))
      ];
  within = λ x. omega (arith, begun x, is.len, length-set words n (0x8000_0000 + size));
}
