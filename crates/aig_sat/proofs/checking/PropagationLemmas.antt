-- Literals that are taken, and propagation step by step.
use Rattle.std.proofs.Common.{◌≡◌, ◌⊎◌, inl, inr, ℕ, ◌+◌, ◌<◌, Bool, true, false, List, [], ◌∷◌}
use Rattle.std.proofs.Common.{◌++◌, length, get_or, refl, sym, ap, subst, ◌∙◌, arith, length-append}
use Rattle.std.proofs.lemmas.List.{get_or-set_other, get_or_append_left}
use Rattle.std.proofs.lemmas.Bool.{false≢true, cases_eq}
use Rattle.std.proofs.lemmas.List.Folds.{list_any_at}
use Rattle.std.proofs.Math.Seq.{get_or-append_seam}
use Rattle.std.specs.Prelude.{IsTrue, IfOk, Result, Ok, Err}
use Rattle.aig_bytes.specs.declared.fault.Memory.{Memory}
use Rattle.aig_parts.specs.Literal.{negation}
use Rattle.aig_sat.specs.declared.checker.known.Known.{Known}
use Rattle.aig_sat.specs.declared.checker.propagator.Propagator.{Propagator}
use Rattle.aig_sat.specs.checker.Agreement.{Agrees, Assumes, Contradicts, Implies, Narrows, Propagates}
use Rattle.aig_sat.specs.checker.Clause.{is_true, meets}
use Rattle.aig_sat.specs.checker.Knowledge.{AreFalseBeside, IsFound, IsIn, IsKnown, MakesTrue, Takes}
use Rattle.aig_sat.specs.checker.Words.{IsClauseAt, Shrinks}
use Rattle.aig_sat.proofs.checking.TruthLemmas.{negation_false, negation_true}
use Rattle.aig_sat.proofs.checking.WordLemmas.{met_then, shrinks_none, shrinks_then}

-- what is known after a literal was taken
pub taken_known : (literal : ℕ) (old new : Known) → Takes literal old new → (l : ℕ) → IsKnown new.truths.items l
    → IsKnown old.truths.items l ⊎ (l ≡ literal)
taken_known literal old new (inl t) l h = inl (ap (λ xs. get_or xs l false) (sym t.0) ∙ h)
taken_known literal old new (inr t) l h = elim (cases_eq l literal) [
  | inl e ↦ inr e
  | inr ne ↦ inl (sym (get_or-set_other old.truths.items literal l true false ne) ∙ ap (λ xs. get_or xs l false) (sym t.0) ∙ h)
]

pub taken_true : (values : ℕ → Bool) (literal : ℕ) (old new : Known) → Takes literal old new
    → MakesTrue values old.truths.items → is_true values literal ≡ true → MakesTrue values new.truths.items
taken_true values literal old new t before now l h = elim (taken_known literal old new t l h) [
  | inl k ↦ before l k
  | inr e ↦ ap (is_true values) e ∙ now
]

pub in_more : (list : List ℕ) (x l : ℕ) → IsIn list l → IsIn (list ++ x ∷ []) l
in_more list x l (k, inside, is) = (
  k,
  (let e : length (list ++ x ∷ []) ≡ length list + 1 = length-append list (x ∷ []) in omega (arith, e, inside)),
  get_or_append_left list (x ∷ []) 0 k inside ∙ is,
)

pub in_last : (list : List ℕ) (x : ℕ) → IsIn (list ++ x ∷ []) x
in_last list x =
    (length list, (let e : length (list ++ x ∷ []) ≡ length list + 1 = length-append list (x ∷ []) in omega (arith, e)), get_or-append_seam list x [] 0)

pub taken_found : (literal : ℕ) (old new : Known) → Takes literal old new → (before : List Bool) → IsFound before old
    → IsFound before new
taken_found literal old new (inl t) before found l h = elim (found l (ap (λ xs. get_or xs l false) (sym t.0) ∙ h)) [
  | inl k ↦ inl k
  | inr i ↦ inr (subst (λ (xs : List ℕ). IsIn xs l) (sym t.1) i)
]
taken_found literal old new (inr t) before found l h = elim (taken_known literal old new (inr t) l h) [
  | inr e ↦ inr (subst (λ (xs : List ℕ). IsIn xs l) (sym t.1)
      (subst (λ (x : ℕ). IsIn (old.trail.items ++ literal ∷ []) x) (sym e) (in_last old.trail.items literal)))
  | inl k ↦ elim (found l k) [
    | inl b ↦ inl b
    | inr i ↦ inr (subst (λ (xs : List ℕ). IsIn xs l) (sym t.1) (in_more old.trail.items literal l i))
  ]
]

pub agrees_then : (old mid : Propagator) → Propagates old mid → (values : ℕ → Bool) → Agrees values old → Agrees values mid
agrees_then old mid first values a = record { met = met_then _ _ first.same values a.met; known = first.known values a }

pub steps : (old mid new : Propagator) → Propagates old mid → Propagates mid new → Propagates old new
steps old mid new first second = record {
  same = shrinks_then _ _ _ first.same second.same;
  known = λ v a. second.known v (agrees_then old mid first v a);
  found = λ b h. second.found b (first.found b h);
}

pub contradicts_then : (old mid : Propagator) → Propagates old mid → Contradicts mid → Contradicts old
contradicts_then old mid first untrue values a = untrue values (agrees_then old mid first values a)

-- only the known literals change
pub by_taking : (literal : ℕ) (old new : Propagator) → new.clauses.words.items ≡ old.clauses.words.items
    → Takes literal old.known new.known → ((values : ℕ → Bool) → Agrees values old → is_true values literal ≡ true)
    → Propagates old new
by_taking literal old new e t implied = record {
  same = subst (Shrinks old.clauses.words.items) (sym e) (shrinks_none _);
  known = λ v a. taken_true v literal old.known new.known t a.known (implied v a);
  found = taken_found literal old.known new.known t;
}

-- the only literal of a clause that is not known to be false is true
pub unit_true : (p : Propagator) (place : ℕ) (literals : List ℕ) (other : ℕ)
    → IsClauseAt p.clauses.words.items place literals → AreFalseBeside p.known.truths.items literals other
    → (values : ℕ → Bool) → Agrees values p → is_true values other ≡ true
unit_true p place literals other at all values a =
    let (k, inside, holds) = a.met place at.stands in
    let within : k < length literals = omega (arith, at.size) in
    let is : get_or literals k 0 ≡ get_or p.clauses.words.items (place + (3 + k)) 0 = at.items k within in
    elim (all k within) [
      | inl e ↦ ap (is_true values) (sym e ∙ is) ∙ holds
      | inr untrue ↦ absurd (negation_false values (get_or literals k 0) (a.known _ untrue) (ap (is_true values) is ∙ holds))
    ]

-- no literal of a clause can be true
pub none_true : (p : Propagator) (place : ℕ) (literals : List ℕ) (other : ℕ)
    → IsClauseAt p.clauses.words.items place literals → AreFalseBeside p.known.truths.items literals other
    → IsKnown p.known.truths.items (negation other) → Contradicts p
none_true p place literals other at all untrue values a =
    negation_false values other (a.known _ untrue) (unit_true p place literals other at all values a)

-- a literal of a clause that is not met is false
pub literal_false : (values : ℕ → Bool) (clause : List ℕ) (k : ℕ) → k < length clause → meets values clause ≡ false
    → is_true values (get_or clause k 0) ≡ false
literal_false values clause k inside untrue = go (is_true values (get_or clause k 0)) refl
  where
    go : (b : Bool) → is_true values (get_or clause k 0) ≡ b → is_true values (get_or clause k 0) ≡ false
    go false e = e
    go true e = absurd (false≢true (sym untrue ∙ list_any_at (is_true values) clause k 0 inside e))

pub assumed_agrees : (clause : List ℕ) (old mid : Propagator) → Assumes clause old mid → (values : ℕ → Bool)
    → Agrees values old → meets values clause ≡ false → Agrees values mid
assumed_agrees clause old mid first values a untrue = record {
  met = met_then _ _ first.same values a.met;
  known = first.known values a untrue;
}

pub assumed_then : (clause : List ℕ) (old mid new : Propagator) → Assumes clause old mid → Propagates mid new
    → Assumes clause old new
assumed_then clause old mid new first second = record {
  same = shrinks_then _ _ _ first.same second.same;
  known = λ v a untrue. second.known v (assumed_agrees clause old mid first v a untrue);
  found = λ b h. second.found b (first.found b h);
}

-- one more literal is assumed to be false
pub assume_more : (clause : List ℕ) (k literal : ℕ) (old mid new : Propagator) → k < length clause
    → literal ≡ get_or clause k 0 → Assumes clause old mid → new.clauses.words.items ≡ mid.clauses.words.items
    → Takes (negation literal) mid.known new.known → Assumes clause old new
assume_more clause k literal old mid new inside is first e t = record {
  same = subst (Shrinks old.clauses.words.items) (sym e) first.same;
  known = λ v a untrue.
      taken_true v (negation literal) mid.known new.known t (first.known v a untrue)
      (negation_true v literal (ap (is_true v) is ∙ literal_false v clause k inside untrue));
  found = λ b h. taken_found (negation literal) mid.known new.known t b (first.found b h);
}

-- no assignment that agrees fails to meet the clause
pub implied_by : (clause : List ℕ) (p : Propagator)
    → ((values : ℕ → Bool) → Agrees values p → meets values clause ≡ false → ⊥) → Implies p clause
implied_by clause p never values a = go (meets values clause) refl
  where
    go : (b : Bool) → meets values clause ≡ b → meets values clause ≡ true
    go true e = e
    go false e = absurd (never values a e)

pub implied_conflict : (clause : List ℕ) (old mid : Propagator) → Assumes clause old mid → Contradicts mid
    → Implies old clause
implied_conflict clause old mid first untrue = implied_by clause old (λ v a unmet. untrue v (assumed_agrees clause old mid first v a unmet))

-- a conflict of a later state is one of the earlier state
pub pulled : (r : Result Bool Memory) (old mid : Propagator) → ((v : ℕ → Bool) → Agrees v old → Agrees v mid)
    → IfOk r (λ b. IsTrue b → Contradicts mid) → IfOk r (λ b. IsTrue b → Contradicts old)
pulled (Ok b) old mid back h = λ t v a. h t v (back v a)
pulled (Err e) old mid back h = h

pub pulled_if : (r : Result Bool Memory) (literal : ℕ) (old mid : Propagator)
    → ((v : ℕ → Bool) → Agrees v old → is_true v literal ≡ true → Agrees v mid)
    → IfOk r (λ b. IsTrue b → Contradicts mid)
    → IfOk r (λ b. IsTrue b → (v : ℕ → Bool) → Agrees v old → is_true v literal ≡ true → ⊥)
pulled_if (Ok b) literal old mid back h = λ t v a holds. h t v (back v a holds)
pulled_if (Err e) literal old mid back h = h

pub pulled_clause : (r : Result Bool Memory) (clause : List ℕ) (old mid : Propagator) → Assumes clause old mid
    → IfOk r (λ b. IsTrue b → Contradicts mid) → IfOk r (λ b. IsTrue b → Implies old clause)
pulled_clause (Ok b) clause old mid first h = λ t. implied_conflict clause old mid first (h t)
pulled_clause (Err e) clause old mid first h = h

-- what is known after the trail was taken back was known before
pub undone : (clause : List ℕ) (old mid new : Propagator) → Assumes clause old mid
    → new.clauses.words.items ≡ mid.clauses.words.items
    → ((before : List Bool) → IsFound before mid.known → (l : ℕ) → IsKnown new.known.truths.items l → IsKnown before l)
    → Narrows old new
undone clause old mid new first e back = record {
  same = subst (Shrinks old.clauses.words.items) (sym e) first.same;
  fewer = λ l h. back old.known.truths.items (first.found old.known.truths.items (λ m known. inl known)) l h;
}

-- an assignment that agreed agrees where less stands and is known
pub agrees_narrowed : (old new : Propagator) → Narrows old new → (values : ℕ → Bool) → Agrees values old → Agrees values new
agrees_narrowed old new n values a = record {
  met = met_then _ _ n.same values a.met;
  known = λ l h. a.known l (n.fewer l h);
}

pub narrows_then : (old mid new : Propagator) → Narrows old mid → Narrows mid new → Narrows old new
narrows_then old mid new first second = record {
  same = shrinks_then _ _ _ first.same second.same;
  fewer = λ l h. first.fewer l (second.fewer l h);
}
