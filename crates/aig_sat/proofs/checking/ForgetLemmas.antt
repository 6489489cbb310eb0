-- Marks that are taken back.
use Rattle.std.proofs.Common.{◌≡◌, ◌⊎◌, inl, inr, ℕ, zero, suc, ◌+◌, ◌-◌, ◌<◌, ◌≤◌, Bool, true, false, cond, List, []}
use Rattle.std.proofs.Common.{◌∷◌, ◌++◌}
use Rattle.std.proofs.Common.{length, get_or, set, refl}
use Rattle.std.proofs.Common.{sym, ap, ◌∙◌, arith}
use Rattle.std.proofs.lemmas.Bool.{false≢true, cases_eq, cases_lt}
use Rattle.std.proofs.lemmas.List.{get_or-set_same, get_or-set_other, get_or_past, get_or_append_left, length-set}
use Rattle.std.proofs.lemmas.List.{get_or-append_right}
use Rattle.std.specs.Prelude.{nat_eq}
use Rattle.std.proofs.lemmas.Bool.Decides.{nat_tests}
use Rattle.std.proofs.lemmas.Grind.{get_or_default_zero}
use Rattle.std.proofs.lemmas.List.Folds.{Any-from_list_any}
use Rattle.aig_sat.specs.checker.Distinct.{Has}
use Rattle.aig_sat.specs.checker.Knowledge.{IsIn, IsKnown}

-- what is known was known, and is none of the first n of the list
pub record AreForgotten (old new : List Bool) (list : List ℕ) (n : ℕ) : Type 0 where
  pub known : (m : ℕ) → IsKnown new m → IsKnown old m
  pub none : (m j : ℕ) → IsKnown new m → j < n → get_or list j 0 ≡ m → ⊥
  pub len : length new ≡ length old

-- one more of the list
pub forgotten_more : (old truths new : List Bool) (list : List ℕ) (n : ℕ) → AreForgotten old truths list n
    → ((get_or list n 0 < length truths) × (new ≡ set truths (get_or list n 0) false))
    ⊎ ((length truths ≤ get_or list n 0) × (new ≡ truths))
    → AreForgotten old new list (n + 1)
forgotten_more old truths new list n before step = record {
  known = λ m h. before.known m (kept m h);
  none = λ m j h within is. elim (cases_eq j n) [
    | inr other ↦ before.none m j (kept m h) (omega arith) is
    | inl e ↦ apart m h (sym is ∙ ap (λ i. get_or list i 0) e)
  ];
  len = elim step [
    | inl s ↦ ap length s.1 ∙ length-set truths (get_or list n 0) false ∙ before.len
    | inr s ↦ ap length s.1 ∙ before.len
  ];
}
  where
    kept : (m : ℕ) → IsKnown new m → IsKnown truths m
    kept m h = elim step [
      | inr s ↦ ap (λ xs. get_or xs m false) (sym s.1) ∙ h
      | inl s ↦ elim (cases_eq m (get_or list n 0)) [
        | inr other ↦ sym (get_or-set_other truths (get_or list n 0) m false false other) ∙ ap (λ xs. get_or xs m false) (sym s.1) ∙ h
        | inl e ↦ absurd (false≢true
            (sym (get_or-set_same truths (get_or list n 0) false false s.0)
            ∙ ap (λ i. get_or (set truths (get_or list n 0) false) i false) (sym e) ∙ ap (λ xs. get_or xs m false) (sym s.1) ∙ h))
      ]
    ]

    apart : (m : ℕ) → IsKnown new m → m ≡ get_or list n 0 → ⊥
    apart m h e = elim step [
      | inr s ↦ false≢true (sym (get_or_past truths m false (omega (arith, e, s.0))) ∙ ap (λ xs. get_or xs m false) (sym s.1) ∙ h)
      | inl s ↦ false≢true
          (sym (get_or-set_same truths (get_or list n 0) false false s.0)
          ∙ ap (λ i. get_or (set truths (get_or list n 0) false) i false) (sym e) ∙ ap (λ xs. get_or xs m false) (sym s.1) ∙ h)
    ]

-- nothing is known of a variable that is added
pub known_more : (truths : List Bool) (l : ℕ) → IsKnown (truths ++ false ∷ false ∷ []) l → IsKnown truths l
known_more truths l h = elim (cases_lt l (length truths)) [
  | inl lt ↦ sym (get_or_append_left truths (false ∷ false ∷ []) false l lt) ∙ h
  | inr ge ↦ absurd (false≢true (sym (none (l - length truths))
      ∙ sym (get_or-append_right truths (false ∷ false ∷ []) (length truths) l false refl ge) ∙ h))
]
  where
    none : (k : ℕ) → get_or (false ∷ false ∷ []) k false ≡ false
    none zero = refl
    none (suc zero) = refl
    none (suc (suc k)) = refl

pub added_known : (b : Bool) (truths new : List Bool) → new ≡ cond b (truths ++ false ∷ false ∷ []) truths → (l : ℕ)
    → IsKnown new l → IsKnown truths l
added_known true truths new e l h = known_more truths l (ap (λ xs. get_or xs l false) (sym e) ∙ h)
added_known false truths new e l h = ap (λ xs. get_or xs l false) (sym e) ∙ h

-- one list, two ways to say that it has a literal
pub in_from_has : (list : List ℕ) (l : ℕ) → Has list l → IsIn list l
in_from_has list l h =
    let (k, x, inside, is, test) = Any-from_list_any (nat_eq l) list h in
    let same : l ≡ x = same_from_test l x test in
    (k, inside, sym (get_or_default_zero list k x inside) ∙ is ∙ sym same)
  where
    same_from_test : (a b : ℕ) → nat_eq a b ≡ true → a ≡ b
    same_from_test a b e = grind (arith, nat_tests)
