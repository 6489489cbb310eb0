-- The numbers of clauses that are given to a checker, piece by piece.
use Rattle.std.proofs.Common.{◌≡◌, ◌⊎◌, inl, inr, ℕ, ◌+◌, ◌<◌, ◌≤◌, length, take, get_or, true, List, [], ◌∷◌}
use Rattle.std.proofs.Common.{◌++◌, refl, sym, ◌∙◌, ap, subst, arith, length-append}
use Rattle.std.specs.List.{flat_map}
use Rattle.std.specs.Prelude.{Err, IsErrAnd, Ok, OnOk, Result}
use Rattle.std.proofs.lemmas.List.{append-nil, take_all, take_more}
use Rattle.std.proofs.lemmas.List.Concat.{flat_map-append}
use Rattle.aig_sat.specs.checker.Basis.{Basis, HasNumber, KeepsNumbers, TakesNumber}
use Rattle.aig_cnf.specs.Numbered.{HaveNumbers, NumbersFormula}
use Rattle.aig_cnf.specs.state.Added.{Numbers, TakeNumbers}

-- ---- answers

pub on_ok_then : {X E : Type 0} → (r : Result X E) (P Q : Type 0) → (P → Q) → OnOk r P → OnOk r Q
on_ok_then (Ok x) P Q next h = next h
on_ok_then (Err e) P Q next h = tt

pub err_on_ok : {X E : Type 0} → (r : Result X E) (P : Type 0) (Q : E → Type 0) → IsErrAnd r Q → OnOk r P
err_on_ok (Ok x) P Q h = absurd h
err_on_ok (Err e) P Q h = tt

-- ---- one after the other

kept_number : (old new : Basis) → KeepsNumbers old new → (n : ℕ) (clause : List ℕ) → HasNumber old n clause → HasNumber new n clause
kept_number old new keeps n clause (literals, same, is) = (literals, same, keeps.others n literals (λ none. none) is)

kept_all : (old new : Basis) → KeepsNumbers old new → (n : ℕ) (clauses : List (List ℕ)) → HaveNumbers n clauses old
    → HaveNumbers n clauses new
kept_all old new keeps n [] h = tt
kept_all old new keeps n (clause ∷ rest) h = (kept_number old new keeps n clause h.0, kept_all old new keeps (n + 1) rest h.1)

keep_then : (old mid new : Basis) → KeepsNumbers old mid → KeepsNumbers mid new → KeepsNumbers old new
keep_then old mid new first second = record {
  hinted = second.hinted ∙ first.hinted;
  variables = omega (arith, first.variables, second.variables);
  refuted = λ conflict. second.refuted (first.refuted conflict);
  others = λ n it ne h. second.others n it ne (first.others n it ne h);
}

numbers_append : (b : Basis) (n : ℕ) (xs ys : List (List ℕ)) → HaveNumbers n xs b → HaveNumbers (n + length xs) ys b
    → HaveNumbers n (xs ++ ys) b
numbers_append b n [] ys first second =
    let e : n + length {A = List ℕ} [] ≡ n = omega arith in subst (λ (m : ℕ). HaveNumbers m ys b) e second
numbers_append b n (x ∷ xs) ys first second =
    let e : n + length (x ∷ xs) ≡ (n + 1) + length xs = omega arith in
    (first.0, numbers_append b (n + 1) xs ys first.1 (subst (λ (m : ℕ). HaveNumbers m ys b) e second))

take_none : (old : Basis) → TakeNumbers [] old old
take_none old = record {
  kept = record { hinted = refl; variables = omega arith; refuted = λ conflict. conflict; others = λ n it ne h. h };
  numbers = inr (λ small. (omega arith, tt));
}

take_one : (clause : List ℕ) (old new : Basis) → TakesNumber clause old new → TakeNumbers (clause ∷ []) old new
take_one clause old new t = record {
  kept = t.kept;
  numbers = elim t.added [
    | inl conflict ↦ inl conflict
    | inr added ↦ elim t.next [
      | inl conflict ↦ inl conflict
      | inr next ↦ inr (λ small. (next (omega (arith, small)), (added (omega (arith, small)), tt)))
    ]
  ];
}

take_then : (xs ys : List (List ℕ)) (old mid new : Basis) → TakeNumbers xs old mid → TakeNumbers ys mid new
    → TakeNumbers (xs ++ ys) old new
take_then xs ys old mid new first second = record {
  kept = keep_then old mid new first.kept second.kept;
  numbers = elim first.numbers [
    | inl conflict ↦ inl (second.kept.refuted conflict)
    | inr begun ↦ elim second.numbers [
      | inl conflict ↦ inl conflict
      | inr more ↦ inr (λ small.
          let all : length (xs ++ ys) ≡ length xs + length ys = length-append xs ys in
          let (next, numbers) = begun (omega (arith, small, all)) in
          let (last, others) = more (omega (arith, small, all, next)) in (
            omega (arith, last, next, all),
            numbers_append new old.next xs ys (kept_all mid new second.kept old.next xs numbers)
                (subst (λ (m : ℕ). HaveNumbers m ys new) next others),
          ))
    ]
  ];
}

-- ---- where steps have hints

pub numbers_none : (old : Basis) → Numbers [] old old
numbers_none old = record { taken = λ hinted. take_none old }

pub numbers_one : (clause : List ℕ) (old new : Basis) → (old.is_hinted ≡ true → TakesNumber clause old new)
    → Numbers (clause ∷ []) old new
numbers_one clause old new h = record { taken = λ hinted. take_one clause old new (h hinted) }

pub on_ok_numbers : {X E : Type 0} → (r : Result X E) (clause : List ℕ) (old new : Basis)
    → (old.is_hinted ≡ true → OnOk r (TakesNumber clause old new)) → OnOk r (Numbers (clause ∷ []) old new)
on_ok_numbers (Ok x) clause old new h = numbers_one clause old new h
on_ok_numbers (Err e) clause old new h = tt

pub numbers_then : {xs ys : List (List ℕ)} {old mid new : Basis} → Numbers xs old mid → Numbers ys mid new
    → Numbers (xs ++ ys) old new
numbers_then {xs} {ys} {old} {mid} {new} first second = record {
  taken = λ hinted.
      let begun = first.taken hinted in take_then xs ys old mid new begun (second.taken (begun.kept.hinted ∙ hinted));
}

pub numbers_same : {xs ys : List (List ℕ)} {old new : Basis} → Numbers xs old new → xs ≡ ys → Numbers ys old new
numbers_same {xs} {ys} {old} {new} h e = subst (λ (zs : List (List ℕ)). Numbers zs old new) e h

-- one item more
pub numbers_more : {Y : Type 0} (f : Y → List (List ℕ)) (xs : List Y) (i : ℕ) (d : Y) {old mid new : Basis}
    → Numbers (flat_map f (take i xs)) old mid → i < length xs → Numbers (f (get_or xs i d)) mid new
    → Numbers (flat_map f (take (i + 1) xs)) old new
numbers_more f xs i d before lt here =
    numbers_same (numbers_then before here)
    (ap (λ (cs : List (List ℕ)). flat_map f (take i xs) ++ cs) (sym (append-nil (f (get_or xs i d))))
    ∙ sym (flat_map-append f (take i xs) (get_or xs i d ∷ [])) ∙ ap (flat_map f) (sym (take_more xs i d lt)))

-- all items
pub numbers_all : {Y : Type 0} (f : Y → List (List ℕ)) (xs : List Y) (i : ℕ) {old new : Basis} → length xs ≤ i
    → Numbers (flat_map f (take i xs)) old new → Numbers (flat_map f xs) old new
numbers_all f xs i le h = numbers_same h (ap (flat_map f) (take_all i xs le))

-- a checker that had no clauses has those of a formula
pub numbers_formula : (variables : ℕ) (clauses : List (List ℕ)) (none new : Basis) → none.is_hinted ≡ true → none.next ≡ 1
    → none.variables ≡ variables → Numbers clauses none new → NumbersFormula variables clauses new
numbers_formula variables clauses none new hinted first count h =
    let t = h.taken hinted in
    record {
      hinted = t.kept.hinted ∙ hinted;
      has_variables = omega (arith, t.kept.variables, count);
      numbers = elim t.numbers [
        | inl conflict ↦ inl conflict
        | inr all ↦ inr (λ few.
            let (next, numbers) = all (omega (arith, few, first)) in
            (omega (arith, next, first), subst (λ (n : ℕ). HaveNumbers n clauses new) first numbers))
      ];
    }
