-- The assignments that satisfy the formula of a state are those that agree with it.
use Rattle.std.proofs.Common.{◌≡◌, ◌⊎◌, inl, inr, ℕ, zero, suc, ◌<◌, ◌≤◌, Bool, true, false}
use Rattle.std.proofs.Common.{List, [], ◌∷◌, ◌++◌, length, get_or, refl, sym, ap, subst, ◌∙◌, arith}
use Rattle.std.specs.Prelude.{nat_le, if◌then◌else◌}
use Rattle.std.specs.List.{list_all}
use Rattle.std.proofs.lemmas.Bool.{false≢true, and_parts, and_from, or_cases, or_left, or_right, le-leb, leb-true}
use Rattle.std.proofs.lemmas.Bool.{cases_eq}
use Rattle.std.proofs.lemmas.List.{get_or_past}
use Rattle.std.proofs.lemmas.List.Folds.{list_all-append}
use Rattle.aig_sat.specs.declared.checker.propagator.Propagator.{Propagator}
use Rattle.aig_sat.specs.checker.Agreement.{Agrees}
use Rattle.aig_sat.specs.checker.Clause.{is_true, meets, Satisfies}
use Rattle.aig_sat.specs.checker.Knowledge.{IsKnown, MakesTrue}
use Rattle.aig_sat.specs.checker.Standing.{clause_at, clauses_at, conflict_clause, literals_at, standing, unit_at}
use Rattle.aig_sat.specs.checker.Standing.{units_at}
use Rattle.aig_sat.specs.checker.Words.{HasTrue, MeetsAll, StandsAt, literal_at, size_at}

-- both lists
pub all_split : (v : ℕ → Bool) (xs ys : List (List ℕ)) → list_all (meets v) (xs ++ ys) ≡ true
    → (list_all (meets v) xs ≡ true) × (list_all (meets v) ys ≡ true)
all_split v xs ys h = and_parts _ _ (sym (list_all-append (meets v) xs ys) ∙ h)

pub all_joined : (v : ℕ → Bool) (xs ys : List (List ℕ)) → list_all (meets v) xs ≡ true → list_all (meets v) ys ≡ true
    → list_all (meets v) (xs ++ ys) ≡ true
all_joined v xs ys hx hy = list_all-append (meets v) xs ys ∙ and_from _ _ hx hy

-- a clause's literals
literal_met : (v : ℕ → Bool) (words : List ℕ) (p n : ℕ) → meets v (literals_at words p n) ≡ true
    → (k : ℕ) × (k < n) × (is_true v (literal_at words p k) ≡ true)
literal_met v words p zero h = absurd (false≢true h)
literal_met v words p (suc n) h = elim (or_cases (is_true v (literal_at words p n)) (meets v (literals_at words p n)) h) [
  | inl e ↦ (n, omega arith, e)
  | inr e ↦ let (k, within, holds) = literal_met v words p n e in (k, omega (arith, within), holds)
]

met_literal : (v : ℕ → Bool) (words : List ℕ) (p n k : ℕ) → k < n → is_true v (literal_at words p k) ≡ true
    → meets v (literals_at words p n) ≡ true
met_literal v words p zero k within holds = absurd (omega arith)
met_literal v words p (suc n) k within holds = elim (cases_eq k n) [
  | inl e ↦ or_left (is_true v (literal_at words p n)) (meets v (literals_at words p n)) (ap (λ i. is_true v (literal_at words p i)) (sym e) ∙ holds)
  | inr other ↦ or_right (is_true v (literal_at words p n)) (meets v (literals_at words p n)) (met_literal v words p n k (omega arith) holds)
]

-- the clause at a place
clause_met : (v : ℕ → Bool) (words : List ℕ) (p : ℕ) → list_all (meets v) (clause_at words p) ≡ true → StandsAt words p
    → HasTrue v words p
clause_met v words p h stands =
    let chosen : clause_at words p ≡ literals_at words p (size_at words p) ∷ [] =
    ap (λ b. if b then literals_at words p (size_at words p) ∷ [] else []) (le-leb 0x8000_0000 (get_or words p 0) stands) in
    literal_met v words p (size_at words p) (and_parts _ _ (sym (ap (list_all (meets v)) chosen) ∙ h)).0

met_clause : (v : ℕ → Bool) (words : List ℕ) (p : ℕ) → (StandsAt words p → HasTrue v words p)
    → list_all (meets v) (clause_at words p) ≡ true
met_clause v words p met = go (nat_le 0x8000_0000 (get_or words p 0)) refl
  where
    go : (b : Bool) → nat_le 0x8000_0000 (get_or words p 0) ≡ b
        → list_all (meets v) (if b then literals_at words p (size_at words p) ∷ [] else []) ≡ true
    go false e = refl
    go true e =
        let (k, within, holds) = met (leb-true 0x8000_0000 (get_or words p 0) e) in
        and_from _ _ (met_literal v words p (size_at words p) k within holds) refl

clauses_met : (v : ℕ → Bool) (words : List ℕ) (n : ℕ) → list_all (meets v) (clauses_at words n) ≡ true → (p : ℕ) → p < n
    → StandsAt words p → HasTrue v words p
clauses_met v words zero h p within stands = absurd (omega arith)
clauses_met v words (suc n) h p within stands =
    let parts = all_split v (clause_at words n) (clauses_at words n) h in
    elim (cases_eq p n) [
      | inl e ↦ subst (λ (i : ℕ). HasTrue v words i) (sym e) (clause_met v words n parts.0 (subst (λ (i : ℕ). StandsAt words i) e stands))
      | inr other ↦ clauses_met v words n parts.1 p (omega arith) stands
    ]

met_clauses : (v : ℕ → Bool) (words : List ℕ) (n : ℕ) → MeetsAll v words → list_all (meets v) (clauses_at words n) ≡ true
met_clauses v words zero met = refl
met_clauses v words (suc n) met =
    all_joined v (clause_at words n) (clauses_at words n) (met_clause v words n (met n)) (met_clauses v words n met)

-- the known literals
unit_met : (v : ℕ → Bool) (truths : List Bool) (l : ℕ) → list_all (meets v) (unit_at truths l) ≡ true → IsKnown truths l
    → is_true v l ≡ true
unit_met v truths l h known =
    let chosen : unit_at truths l ≡ (l ∷ []) ∷ [] = ap (λ b. if b then (l ∷ []) ∷ [] else []) known in
    elim (or_cases (is_true v l) false (and_parts _ _ (sym (ap (list_all (meets v)) chosen) ∙ h)).0) [
      | inl e ↦ e
      | inr e ↦ absurd (false≢true e)
    ]

met_unit : (v : ℕ → Bool) (truths : List Bool) (l : ℕ) → (IsKnown truths l → is_true v l ≡ true)
    → list_all (meets v) (unit_at truths l) ≡ true
met_unit v truths l makes = go (get_or truths l false) refl
  where
    go : (b : Bool) → get_or truths l false ≡ b → list_all (meets v) (if b then (l ∷ []) ∷ [] else []) ≡ true
    go false e = refl
    go true e = and_from _ _ (or_left (is_true v l) false (makes e)) refl

units_met : (v : ℕ → Bool) (truths : List Bool) (n : ℕ) → list_all (meets v) (units_at truths n) ≡ true → (l : ℕ) → l < n
    → IsKnown truths l → is_true v l ≡ true
units_met v truths zero h l within known = absurd (omega arith)
units_met v truths (suc n) h l within known =
    let parts = all_split v (unit_at truths n) (units_at truths n) h in
    elim (cases_eq l n) [
      | inl e ↦ ap (is_true v) e ∙ unit_met v truths n parts.0 (subst (λ (i : ℕ). IsKnown truths i) e known)
      | inr other ↦ units_met v truths n parts.1 l (omega arith) known
    ]

met_units : (v : ℕ → Bool) (truths : List Bool) (n : ℕ) → MakesTrue v truths → list_all (meets v) (units_at truths n) ≡ true
met_units v truths zero makes = refl
met_units v truths (suc n) makes =
    all_joined v (unit_at truths n) (units_at truths n) (met_unit v truths n (makes n)) (met_units v truths n makes)

-- the conflict
no_conflict : (v : ℕ → Bool) (refuted : Bool) → list_all (meets v) (conflict_clause refuted) ≡ true → refuted ≡ false
no_conflict v true h = absurd (false≢true h)
no_conflict v false h = refl

conflict_none : (v : ℕ → Bool) (refuted : Bool) → refuted ≡ false → list_all (meets v) (conflict_clause refuted) ≡ true
conflict_none v true e = absurd (false≢true (sym e))
conflict_none v false e = refl

-- both ways
pub state_holds : (v : ℕ → Bool) (refuted : Bool) (p : Propagator) → Satisfies v (standing refuted p)
    → (refuted ≡ false) × Agrees v p
state_holds v refuted p h =
    let words = p.clauses.words.items in
    let truths = p.known.truths.items in
    let first = all_split v (conflict_clause refuted) (clauses_at words (length words) ++ units_at truths (length truths)) h in
    let second = all_split v (clauses_at words (length words)) (units_at truths (length truths)) first.1 in (
      no_conflict v refuted first.0,
      record {
        met = λ q stands. elim (inside_words q) [
          | inl lt ↦ clauses_met v words (length words) second.0 q lt stands
          | inr ge ↦ absurd (omega (arith, get_or_past words q 0 ge, stands))
        ];
        known = λ l is_known. elim (inside_truths l) [
          | inl lt ↦ units_met v truths (length truths) second.1 l lt is_known
          | inr ge ↦ absurd (false≢true (sym (get_or_past truths l false ge) ∙ is_known))
        ];
      },
    )
  where
    inside_words : (q : ℕ) → (q < length p.clauses.words.items) ⊎ (length p.clauses.words.items ≤ q)
    inside_words q = grind arith

    inside_truths : (l : ℕ) → (l < length p.known.truths.items) ⊎ (length p.known.truths.items ≤ l)
    inside_truths l = grind arith

pub holds_state : (v : ℕ → Bool) (refuted : Bool) (p : Propagator) → refuted ≡ false → Agrees v p
    → Satisfies v (standing refuted p)
holds_state v refuted p none a =
    let words = p.clauses.words.items in
    let truths = p.known.truths.items in
    all_joined v (conflict_clause refuted) (clauses_at words (length words) ++ units_at truths (length truths))
    (conflict_none v refuted none)
    (all_joined v (clauses_at words (length words)) (units_at truths (length truths))
    (met_clauses v words (length words) a.met) (met_units v truths (length truths) a.known))
