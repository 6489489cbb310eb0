-- A clause that is added on its first literal.
use Rattle.std.proofs.Common.{◌≡◌, ◌≢◌, inl, inr, ℕ, ◌+◌, ◌-◌, ◌<◌, ◌%◌, Bool, true, false, not, List, length, get_or}
use Rattle.std.proofs.Common.{refl, sym, ap, subst, ◌∙◌, arith}
use Rattle.std.specs.Prelude.{nat_eq, if◌then◌else◌, IsTrue, IfOk, Result, Ok, Err}
use Rattle.std.proofs.lemmas.List.Folds.{list_any_at}
use Rattle.std.proofs.lemmas.Bool.{cases_eq, eq-eqb, ne_eqb}
use Rattle.aig_bytes.specs.declared.fault.Memory.{Memory}
use Rattle.aig_parts.specs.Literal.{variable, negation}
use Rattle.aig_sat.specs.declared.checker.checker.Checker.{Checker}
use Rattle.aig_sat.specs.declared.checker.propagator.Propagator.{Propagator}
use Rattle.aig_sat.specs.checker.Agreement.{Agrees, Implies, Narrows}
use Rattle.aig_sat.specs.checker.Clause.{is_true, meets}
use Rattle.aig_sat.specs.checker.First.{IsSettled, MayStand, MeetsOther, Settles}
use Rattle.aig_sat.specs.checker.Holding.{KeepsHolding, KeepsMeeting, KeepsSomeHolding}
use Rattle.aig_sat.specs.checker.Knowledge.{IsKnown, MakesTrue}
use Rattle.aig_sat.specs.checker.Words.{HasTrue, IsClauseAt, Shrinks, StandsAt, literal_at}
use Rattle.aig_sat.proofs.checking.PropagationLemmas.{agrees_narrowed}
use Rattle.aig_sat.proofs.checking.TruthLemmas.{signs, true_even, true_odd}

-- ---- an assignment in which a literal is made true, and each other variable keeps its value

abbrev pub made_true : (ℕ → Bool) → ℕ → ℕ → Bool
made_true values l x = if nat_eq x (variable l) then nat_eq (l % 2) 0 else values x

made_at : (v : ℕ → Bool) (l : ℕ) → made_true v l (variable l) ≡ nat_eq (l % 2) 0
made_at v l = ap (λ b. if b then nat_eq (l % 2) 0 else v (variable l)) (eq-eqb (variable l) (variable l) refl)

made_else : (v : ℕ → Bool) (l x : ℕ) → x ≢ variable l → made_true v l x ≡ v x
made_else v l x ne = ap (λ b. if b then nat_eq (l % 2) 0 else v x) (ne_eqb x (variable l) ne)

made : (v : ℕ → Bool) (l : ℕ) → is_true (made_true v l) l ≡ true
made v l = elim (signs l) [
  | inl even ↦ true_even (made_true v l) l even ∙ made_at v l ∙ eq-eqb (l % 2) 0 even
  | inr odd ↦ true_odd (made_true v l) l odd ∙ ap not (made_at v l ∙ ne_eqb (l % 2) 0 (λ e. omega (arith, e, odd)))
]

other_variable : (l m : ℕ) → m ≢ l → m ≢ negation l → variable m ≢ variable l
other_variable l m ne nn e = elim (signs l) [
  | inl even ↦ let is : negation l ≡ l + 1 = rw even refl in grind arith
  | inr odd ↦ let is : negation l ≡ l - 1 = rw odd refl in grind arith
]

made_keeps : (v : ℕ → Bool) (l m : ℕ) → m ≢ l → m ≢ negation l → is_true (made_true v l) m ≡ is_true v m
made_keeps v l m ne nn =
    let same : made_true v l (variable m) ≡ v (variable m) = made_else v l (variable m) (other_variable l m ne nn) in
    elim (signs m) [
      | inl even ↦ true_even (made_true v l) m even ∙ same ∙ sym (true_even v m even)
      | inr odd ↦ true_odd (made_true v l) m odd ∙ ap not same ∙ sym (true_odd v m odd)
    ]

still_true : (v : ℕ → Bool) (l m : ℕ) → m ≢ negation l → is_true v m ≡ true → is_true (made_true v l) m ≡ true
still_true v l m nn holds = elim (cases_eq m l) [
  | inl e ↦ ap (is_true (made_true v l)) e ∙ made v l
  | inr ne ↦ made_keeps v l m ne nn ∙ holds
]

settled_true : (v : ℕ → Bool) (words : List ℕ) (l p : ℕ) → HasTrue v words p → Settles v words p (negation l)
    → HasTrue (made_true v l) words p
settled_true v words l p (k, inside, holds) (inl none) =
    (k, inside, still_true v l (literal_at words p k) (none k inside) holds)
settled_true v words l p _ (inr (k, inside, other, holds)) =
    (k, inside, still_true v l (literal_at words p k) other holds)

known_still : (v : ℕ → Bool) (truths : List Bool) (l : ℕ) → MakesTrue v truths → (IsKnown truths l → ⊥)
    → (IsKnown truths (negation l) → ⊥) → MakesTrue (made_true v l) truths
known_still v truths l makes unknown unknown_too m known =
    made_keeps v l m
    (λ e. unknown (subst (λ (x : ℕ). IsKnown truths x) e known))
    (λ e. unknown_too (subst (λ (x : ℕ). IsKnown truths x) e known))
    ∙ makes m known

-- ---- candidates

settled_then : (v : ℕ → Bool) (old new : List ℕ) (p lie : ℕ) → Shrinks old new → StandsAt new p → Settles v old p lie
    → Settles v new p lie
settled_then v old new p lie s stands (inl none) =
    inl (λ k inside is. let (j, within, same) = s.had p k stands inside in none j within (same ∙ is))
settled_then v old new p lie s stands (inr (k, inside, other, holds)) =
    let e : get_or new p 0 ≡ get_or old p 0 = s.heads p stands in
    let (j, within, same) = s.kept p k stands (omega (arith, e, inside)) in
    inr (j, within, (λ is. other (sym same ∙ is)), ap (is_true v) same ∙ holds)

-- a clause that stood at a place before stands there now
stood : (old new : List ℕ) (p : ℕ) → Shrinks old new → StandsAt new p → StandsAt old p
stood old new p s stands = let e : get_or new p 0 ≡ get_or old p 0 = s.heads p stands in omega (arith, e, stands)

-- the literals of the clause at a place
settled_at : (v : ℕ → Bool) (words literals : List ℕ) (p lie : ℕ) → IsClauseAt words p literals → MeetsOther v literals lie
    → Settles v words p lie
settled_at v words literals p lie at (k, inside, other, holds) =
    let is : get_or literals k 0 ≡ literal_at words p k = at.items k inside in
    inr (k, omega (arith, at.size, inside), (λ e. other (is ∙ e)), ap (is_true v) (sym is) ∙ holds)

-- the resolvent follows
settled_by : (old new : Propagator) (clause literals resolvent : List ℕ) (lie place : ℕ)
    → IsClauseAt old.clauses.words.items place literals
    → ((v : ℕ → Bool) → meets v resolvent ≡ true → meets v clause ≡ false → MeetsOther v literals lie)
    → Narrows old new → Implies old resolvent → IsSettled old new clause lie place
settled_by old new clause literals resolvent lie place at resolves n implied v a untrue stands =
    settled_then v old.clauses.words.items new.clauses.words.items place lie n.same stands
    (settled_at v old.clauses.words.items literals place lie at (resolves v (implied v a) untrue))

-- the same of what a search returns
pub settled_found : (r : Result Bool Memory) (old new : Propagator) (clause literals resolvent : List ℕ) (lie place : ℕ)
    → IsClauseAt old.clauses.words.items place literals
    → ((v : ℕ → Bool) → meets v resolvent ≡ true → meets v clause ≡ false → MeetsOther v literals lie)
    → Narrows old new → IfOk r (λ follows. IsTrue follows → Implies old resolvent)
    → IfOk r (λ settled. IsTrue settled → IsSettled old new clause lie place)
settled_found (Err e) old new clause literals resolvent lie place at resolves n implied = implied
settled_found (Ok b) old new clause literals resolvent lie place at resolves n implied =
    λ t. settled_by old new clause literals resolvent lie place at resolves n (implied t)

-- what was settled stays so
pub settled_later : (old mid new : Propagator) (clause : List ℕ) (lie p : ℕ) → IsSettled old mid clause lie p
    → Narrows mid new → IsSettled old new clause lie p
settled_later old mid new clause lie p before n v a untrue stands =
    settled_then v mid.clauses.words.items new.clauses.words.items p lie n.same stands
    (before v a untrue (stood mid.clauses.words.items new.clauses.words.items p n.same stands))

pub settled_earlier : (old mid new : Propagator) (clause : List ℕ) (lie p : ℕ) → Narrows old mid
    → IsSettled mid new clause lie p → IsSettled old new clause lie p
settled_earlier old mid new clause lie p n now v a untrue stands = now v (agrees_narrowed old mid n v a) untrue stands

-- ---- the clause may stand

made_agrees : (old new : Propagator) (clause : List ℕ) (l : ℕ) → Narrows old new
    → (IsKnown old.known.truths.items l → ⊥) → (IsKnown old.known.truths.items (negation l) → ⊥)
    → ((p : ℕ) → IsSettled old new clause (negation l) p) → (v : ℕ → Bool) → Agrees v old → meets v clause ≡ false
    → Agrees (made_true v l) new
made_agrees old new clause l n unknown unknown_too settled v a untrue =
    let now = agrees_narrowed old new n v a in
    record {
      met = λ p stands.
          settled_true v new.clauses.words.items l p (now.met p stands) (settled p v a untrue stands);
      known = known_still v new.known.truths.items l now.known (λ h. unknown (n.fewer l h)) (λ h. unknown_too (n.fewer (negation l) h));
    }

pub may_stand : (old new : Propagator) (clause : List ℕ) (l k : ℕ) → k < length clause → get_or clause k 0 ≡ l
    → Narrows old new → (IsKnown old.known.truths.items l → ⊥) → (IsKnown old.known.truths.items (negation l) → ⊥)
    → ((p : ℕ) → IsSettled old new clause (negation l) p) → MayStand old new clause
may_stand old new clause l k inside is n unknown unknown_too settled v a = go (meets v clause) refl
  where
    go : (b : Bool) → meets v clause ≡ b → (others : ℕ → Bool) × (Agrees others new × (meets others clause ≡ true))
    go true e = (v, (agrees_narrowed old new n v a, e))
    go false e = (
      made_true v l,
      (
        made_agrees old new clause l n unknown unknown_too settled v a e,
        list_any_at (is_true (made_true v l)) clause k 0 inside (ap (is_true (made_true v l)) is ∙ made v l),
      ),
    )

-- as a search answers it
pub may_stand_found : (r : Result Bool Memory) (old new : Propagator) (clause : List ℕ) (l k : ℕ) → k < length clause
    → get_or clause k 0 ≡ l → Narrows old new → IfOk r (λ may. IsTrue may → IsKnown old.known.truths.items l → ⊥)
    → IfOk r (λ may. IsTrue may → IsKnown old.known.truths.items (negation l) → ⊥)
    → IfOk r (λ may. IsTrue may → (p : ℕ) → IsSettled old new clause (negation l) p)
    → IfOk r (λ may. IsTrue may → MayStand old new clause)
may_stand_found (Err e) old new clause l k inside is n unknown unknown_too settled = settled
may_stand_found (Ok b) old new clause l k inside is n unknown unknown_too settled =
    λ t. may_stand old new clause l k inside is n (unknown t) (unknown_too t) (settled t)

-- the looks that are left change nothing
pub may_stand_seen : (r : Result Bool Memory) (old seen now new : Propagator) (clause : List ℕ)
    → ((v : ℕ → Bool) → Agrees v old → Agrees v seen) → ((v : ℕ → Bool) → Agrees v now → Agrees v new)
    → IfOk r (λ may. IsTrue may → MayStand seen now clause) → IfOk r (λ may. IsTrue may → MayStand old new clause)
may_stand_seen (Err e) old seen now new clause begins ends h = h
may_stand_seen (Ok b) old seen now new clause begins ends h =
    λ t v a. let (w, (agrees, met)) = h t v (begins v a) in (w, (ends w agrees, met))

-- ---- the checker

pub narrowed_holds : (old new : Checker) → new.refuted ≡ old.refuted → Narrows old.propagator new.propagator
    → KeepsHolding old new
narrowed_holds old new same n v h = record {
  open_still = same ∙ h.open_still;
  agrees = agrees_narrowed old.propagator new.propagator n v h.agrees;
}

pub narrowed_some : (old new : Checker) → new.refuted ≡ old.refuted → Narrows old.propagator new.propagator
    → KeepsSomeHolding old new
narrowed_some old new same n v h = (v, narrowed_holds old new same n v h)

pub stands_some : (clause : List ℕ) (old mid new : Checker) → mid.refuted ≡ old.refuted
    → MayStand old.propagator mid.propagator clause → KeepsMeeting clause mid new → KeepsSomeHolding old new
stands_some clause old mid new same may adds v h =
    let (w, (agrees, met)) = may v h.agrees in
    (w, adds w (record { open_still = same ∙ h.open_still; agrees = agrees }) met)
