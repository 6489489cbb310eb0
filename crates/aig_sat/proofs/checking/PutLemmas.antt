-- Clauses that are added.
use Rattle.std.proofs.Common.{◌≡◌, inl, inr, ℕ, ◌+◌, ◌-◌, ◌%◌, ◌<◌, ◌≤◌, Bool, true, List, [], ◌∷◌, ◌++◌, length}
use Rattle.std.proofs.Common.{get_or, set, refl, sym, ap, ◌∙◌, arith, length-append}
use Rattle.std.proofs.lemmas.List.{length-set, get_or-set_same, get_or-set_other, get_or_append_left}
use Rattle.std.proofs.lemmas.List.{get_or-append_right, get_or_past}
use Rattle.std.proofs.lemmas.List.Folds.{Any-from_list_any}
use Rattle.std.proofs.lemmas.Grind.{get_or_default_zero}
use Rattle.std.proofs.lemmas.Bool.{cases_eq, cases_lt}
use Rattle.aig_sat.specs.checker.Clause.{is_true, meets}
use Rattle.aig_sat.specs.checker.Words.{AreLiterals, IsAdded, IsLaidOut, IsLast, IsPut, KeepsMet, MeetsAll, Shrinks, StandsAt}
use Rattle.aig_sat.proofs.checking.WordLemmas.{met_then, same_shrinks}

-- a literal that meets a clause
pub literal_that_meets : (values : ℕ → Bool) (literals : List ℕ) → meets values literals ≡ true
    → (k : ℕ) × (k < length literals) × (is_true values (get_or literals k 0) ≡ true)
literal_that_meets values literals h =
    let (k, x, inside, is, holds) = Any-from_list_any (is_true values) literals h in
    (k, inside, ap (is_true values) (sym (get_or_default_zero literals k x inside) ∙ is) ∙ holds)

after : (old tail : List ℕ) (q : ℕ) → length old ≤ q → get_or (old ++ tail) q 0 ≡ get_or tail (q - length old) 0
after old tail q above = get_or-append_right old tail (length old) q 0 refl above

-- past the end of a list there is nothing
beyond : (xs : List ℕ) (q : ℕ) → length xs ≤ q → get_or xs q 0 ≡ 0
beyond xs q above = get_or_past xs q 0 above

small_after : (old tail : List ℕ) → AreLiterals tail → (q : ℕ) → length old ≤ q → get_or (old ++ tail) q 0 < 0x8000_0000
small_after old tail small q above = elim (cases_lt (q - length old) (length tail)) [
  | inl lt ↦ omega (arith, after old tail q above, small (q - length old) lt)
  | inr ge ↦ omega (arith, after old tail q above, beyond tail (q - length old) ge)
]

-- words that are not the first of a clause
pub append_laid_out : (words tail : List ℕ) → IsLaidOut words → AreLiterals tail → IsLaidOut (words ++ tail)
append_laid_out words tail laid small p now =
    let len : length (words ++ tail) ≡ length words + length tail = length-append words tail in
    elim (cases_lt p (length words)) [
      | inr above ↦ absurd (omega (arith, small_after words tail small p above, now))
      | inl below ↦
          let same : get_or (words ++ tail) p 0 ≡ get_or words p 0 = get_or_append_left words tail 0 p below in
          let old : StandsAt words p = omega (arith, same, now) in (
            omega (arith, len, same, (laid p old).0),
            λ q from to.
                let inside : q < length words = omega (arith, same, to, (laid p old).0) in
                omega (arith, get_or_append_left words tail 0 q inside, (laid p old).1 q from (omega (arith, same, to))),
          )
    ]

pub append_shrinks : (words tail : List ℕ) → IsLaidOut words → AreLiterals tail → Shrinks words (words ++ tail)
append_shrinks words tail laid small = same_shrinks words (words ++ tail) (λ p now. head p now) (λ p k now k_in.
    let same : get_or (words ++ tail) p 0 ≡ get_or words p 0 = head p now in
    let old : StandsAt words p = omega (arith, same, now) in
    get_or_append_left words tail 0 (p + (3 + k)) (omega (arith, same, k_in, (laid p old).0)))
  where
    inside : (p : ℕ) → StandsAt (words ++ tail) p → p < length words
    inside p now = elim (cases_lt p (length words)) [
      | inl below ↦ below
      | inr above ↦ absurd (omega (arith, small_after words tail small p above, now))
    ]

    head : (p : ℕ) → StandsAt (words ++ tail) p → get_or (words ++ tail) p 0 ≡ get_or words p 0
    head p now = get_or_append_left words tail 0 p (inside p now)

pub three_small : (a : ℕ) → a < 0x8000_0000 → AreLiterals (0 ∷ a ∷ 0 ∷ [])
three_small a small k within = grind arith

-- what was put is the last clause
pub put_last : (old literals words : List ℕ) → IsLaidOut old → IsPut old literals words → IsLast words (length old) (length literals)
put_last old literals words laid is = record {
  len = is.len;
  small = is.small;
  ends = λ p now. elim (cases_lt p (length old)) [
    | inr above ↦ absurd (omega (arith, is.small p above, now))
    | inl below ↦
        let was : get_or words p 0 ≡ get_or old p 0 = is.before p below in
        let stands : StandsAt old p = omega (arith, was, now) in
        omega (arith, was, (laid p stands).0)
  ];
}

-- the clause stands from now on
pub stand_laid_out : (words : List ℕ) (n size : ℕ) → IsLaidOut words → IsLast words n size → IsLaidOut (set words n (0x8000_0000 + size))
stand_laid_out words n size laid is p now =
    let x = 0x8000_0000 + size in
    let inside : n < length words = omega (arith, is.len) in
    let len : length (set words n x) ≡ length words = length-set words n x in
    elim (cases_eq p n) [
      | inl e ↦
          let here : get_or (set words n x) p 0 ≡ x = ap (λ i. get_or (set words n x) i 0) e ∙ get_or-set_same words n x 0 inside in (
            omega (arith, len, here, e, is.len),
            λ q from to.
                omega (arith, get_or-set_other words n q x 0 (omega (arith, e, from)), is.small q (omega (arith, e, from))),
          )
      | inr ne ↦
          let same : get_or (set words n x) p 0 ≡ get_or words p 0 = get_or-set_other words n p x 0 ne in
          let stands : StandsAt words p = omega (arith, same, now) in (
            omega (arith, len, same, (laid p stands).0),
            λ q from to.
                omega (arith, get_or-set_other words n q x 0 (omega (arith, same, to, is.ends p stands)), (laid p stands).1 q from (omega (arith, same, to))),
          )
    ]

pub stand_keeps : (words literals : List ℕ) (n : ℕ) → IsLast words n (length literals)
    → ((k : ℕ) → k < length literals → get_or words (n + (3 + k)) 0 ≡ get_or literals k 0)
    → (values : ℕ → Bool) → meets values literals ≡ true → MeetsAll values words
    → MeetsAll values (set words n (0x8000_0000 + length literals))
stand_keeps words literals n is items values meets_it met p now =
    let x = 0x8000_0000 + length literals in
    let inside : n < length words = omega (arith, is.len) in
    elim (cases_eq p n) [
      | inl e ↦
          let here : get_or (set words n x) p 0 ≡ x = ap (λ i. get_or (set words n x) i 0) e ∙ get_or-set_same words n x 0 inside in
          let (k, k_in, k_true) = literal_that_meets values literals meets_it in
          let at_k : get_or (set words n x) (p + (3 + k)) 0 ≡ get_or literals k 0 =
          get_or-set_other words n (p + (3 + k)) x 0 (omega (arith, e))
          ∙ ap (λ i. get_or words (i + (3 + k)) 0) e ∙ items k k_in in
          (k, omega (arith, here, k_in), ap (is_true values) at_k ∙ k_true)
      | inr ne ↦
          let same : get_or (set words n x) p 0 ≡ get_or words p 0 = get_or-set_other words n p x 0 ne in
          let stands : StandsAt words p = omega (arith, same, now) in
          let (k, k_in, k_true) = met p stands in (
            k,
            omega (arith, same, k_in),
            ap (is_true values) (get_or-set_other words n (p + (3 + k)) x 0 (omega (arith, is.ends p stands, k_in))) ∙ k_true,
          )
    ]

-- a clause that was put, and stands
pub put_added : (old literals words : List ℕ) (number place : ℕ) → place ≡ length old → IsPut old literals words
    → get_or words (length old + 1) 0 ≡ number % 0x8000_0000
    → IsAdded old number literals (set words place (0x8000_0000 + length literals)) place
put_added old literals words number place at put named =
    let x = 0x8000_0000 + length literals in
    let inside : place < length words = omega (arith, at, put.len) in
    let head : get_or (set words place x) place 0 ≡ x = get_or-set_same words place x 0 inside in
    record {
      place_is = at;
      before = λ q q_in. get_or-set_other words place q x 0 (omega (arith, at, q_in)) ∙ put.before q q_in;
      clause = record {
        stands = omega (arith, head);
        size = omega (arith, head);
        items = λ k k_in.
            sym (get_or-set_other words place (place + (3 + k)) x 0 (omega arith)
            ∙ ap (λ (n : ℕ). get_or words (n + (3 + k)) 0) at ∙ put.items k k_in);
      };
      number_is = get_or-set_other words place (place + 1) x 0 (omega arith) ∙ ap (λ (n : ℕ). get_or words (n + 1) 0) at ∙ named;
    }
