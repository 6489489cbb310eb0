-- The clauses that make the last of some literals true, and those before it false.
use Rattle.std.proofs.Common.{◌≡◌, ℕ, zero, suc, ◌+◌, ◌<◌, Bool, true, false, not, ◌||◌, List, [], ◌∷◌, ◌++◌, Some}
use Rattle.std.proofs.Common.{slice_get, refl, sym, ◌∙◌, ap, subst, add-one}
use Rattle.std.specs.List.{list_all}
use Rattle.std.proofs.lemmas.Bool.{not-true, and_parts}
use Rattle.aig_sat.proofs.checking.TruthLemmas.{true_negation}
use Rattle.aig_parts.specs.Literal.{negation}
use Rattle.aig_cnf.specs.Formula.{first_reached}
use Rattle.aig_refute.proofs.BadFormula.{goal_frame}
use Rattle.aig_refute.proofs.Tseitin.{both_and, meets_one}
use Rattle.aig_sat.specs.checker.Clause.{is_true, meets, Satisfies}
use Rattle.aig_unroll.specs.Unrolled.{frames}
use Rattle.aig_unroll.proofs.UnrolledRow.{frames_at}

pub satisfies_both : (a : ℕ → Bool) (xs ys : List (List ℕ)) → Satisfies a xs → Satisfies a ys → Satisfies a (xs ++ ys)
satisfies_both a [] ys h k = k
satisfies_both a (x ∷ xs) ys h k =
    let (first, rest) = and_parts (meets a x) (list_all (meets a) xs) h in both_and first (satisfies_both a xs ys rest k)

-- ---- from the literals to the clauses

false_met : (a : ℕ → Bool) (l : ℕ) → is_true a l ≡ false → meets a (negation l ∷ []) ≡ true
false_met a l is = meets_one a (negation l ∷ []) 0 (negation l) refl (true_negation a l ∙ ap not is)

last_reached : (a : ℕ → Bool) (ls : List ℕ) (l : ℕ) → ((i m : ℕ) → slice_get ls i ≡ Some m → is_true a m ≡ false)
    → is_true a l ≡ true → Satisfies a (first_reached (ls ++ l ∷ []))
last_reached a [] l each is = both_and (meets_one a (l ∷ []) 0 l refl is) refl
last_reached a (x ∷ []) l each is = both_and (false_met a x (each 0 x refl)) (last_reached a [] l (λ i m at. cc) is)
last_reached a (x ∷ y ∷ ys) l each is =
    both_and (false_met a x (each 0 x refl)) (last_reached a (y ∷ ys) l (λ i m at. each (suc i) m at) is)

-- one literal per frame
pub reached_at : (a : ℕ → Bool) (f : ℕ → ℕ) (k : ℕ) → ((t : ℕ) → t < k → is_true a (f t) ≡ false) → is_true a (f k) ≡ true
    → Satisfies a (first_reached (frames (λ t. f t ∷ []) (k + 1)))
reached_at a f k quiet loud =
    subst (λ n. Satisfies a (first_reached (frames (λ t. f t ∷ []) n))) (sym (add-one k))
    (last_reached a (frames (λ t. f t ∷ []) k) (f k) (λ i m at. earlier i m (goal_frame f k i m at)) loud)
  where
    earlier : (i m : ℕ) → (t : ℕ) × (t < k) × (m ≡ f t) → is_true a m ≡ false
    earlier i m (t, below, is) = ap (is_true a) is ∙ quiet t below

-- ---- from the clauses to the literals

abbrev AreFalse : (ℕ → Bool) → List ℕ → Type 0
AreFalse a ls = (i m : ℕ) → slice_get ls i ≡ Some m → is_true a m ≡ false

only : (b : Bool) → (b || false) ≡ true → b ≡ true
only true e = refl
only false e = cc

met_false : (a : ℕ → Bool) (l : ℕ) → meets a (negation l ∷ []) ≡ true → is_true a l ≡ false
met_false a l h = not-true (is_true a l) (sym (true_negation a l) ∙ only (is_true a (negation l)) h)

one_more : (a : ℕ → Bool) (x : ℕ) (ls : List ℕ) → is_true a x ≡ false → AreFalse a ls → AreFalse a (x ∷ ls)
one_more a x ls quiet each zero m at =
    let same : x ≡ m = (let e : Some x ≡ Some m = at in cc) in subst (λ n. is_true a n ≡ false) same quiet
one_more a x ls quiet each (suc i) m at = each i m at

reached_last : (a : ℕ → Bool) (ls : List ℕ) (l : ℕ) → Satisfies a (first_reached (ls ++ l ∷ []))
    → AreFalse a ls × (is_true a l ≡ true)
reached_last a [] l h = (λ i m at. cc, only (is_true a l) (and_parts (meets a (l ∷ [])) true h).0)
reached_last a (x ∷ []) l h =
    let (quiet, rest) = and_parts (meets a (negation x ∷ [])) (list_all (meets a) (first_reached (l ∷ []))) h in
    let (each, loud) = reached_last a [] l rest in (one_more a x [] (met_false a x quiet) each, loud)
reached_last a (x ∷ y ∷ ys) l h =
    let (quiet, rest) = and_parts (meets a (negation x ∷ [])) (list_all (meets a) (first_reached (y ∷ ys ++ l ∷ []))) h in
    let (each, loud) = reached_last a (y ∷ ys) l rest in (one_more a x (y ∷ ys) (met_false a x quiet) each, loud)

-- one literal per frame
pub at_reached : (a : ℕ → Bool) (f : ℕ → ℕ) (k : ℕ) → Satisfies a (first_reached (frames (λ t. f t ∷ []) (k + 1)))
    → ((t : ℕ) → t < k → is_true a (f t) ≡ false) × (is_true a (f k) ≡ true)
at_reached a f k h =
    let (each, loud) = reached_last a (frames (λ t. f t ∷ []) k) (f k)
    (subst (λ n. Satisfies a (first_reached (frames (λ t. f t ∷ []) n))) (add-one k) h) in (
      λ t lt. let (j, stands) = frames_at (λ s. f s ∷ []) k t 0 (f t) lt refl in each j (f t) stands,
      loud,
    )
