-- Lists that become longer side by side.
use Rattle.std.proofs.Common.{◌≡◌, ◌↔◌, ℕ, zero, suc, ◌+◌, ◌<◌, ◌≤◌, Bool, true, false, IsTrue, List, [], ◌∷◌, ◌++◌}
use Rattle.std.proofs.Common.{All, length, take, get_or, Some, slice_get, refl, sym, ap, ◌∙◌, subst, arith}
use Rattle.std.specs.List.{AllZip}
use Rattle.std.proofs.lemmas.Bool.{false≢true}
use Rattle.std.proofs.lemmas.List.{take_more, take_all}
use Rattle.std.proofs.lemmas.List.Elements.{AllZip-get_or, All-push}
use Rattle.aig_parts.specs.declared.raw.Raw.{Raw}
use Rattle.aig_base.specs.Sections.{IsLatchLiteral}
use Rattle.aig_shell.specs.Edits.{ArePositions}

zip_more : (R : ℕ → ℕ → Type 0) (n d : ℕ) (xs ys : List ℕ) (y : ℕ) → n < length xs → AllZip R (take n xs) ys → R (get_or xs n d) y
    → AllZip R (take (suc n) xs) (ys ++ y ∷ [])
zip_more R n d [] ys y lt h r = absurd (omega (arith, lt))
zip_more R zero d (x ∷ xs) [] y lt h r = (r, tt)
zip_more R zero d (x ∷ xs) (z ∷ zs) y lt h r = absurd h
zip_more R (suc n) d (x ∷ xs) [] y lt h r = absurd h
zip_more R (suc n) d (x ∷ xs) (z ∷ zs) y lt h r = (h.0, zip_more R n d xs zs y (omega (arith, lt)) h.1 r)

pub positions_more : (raw : Raw) (n : ℕ) (literals positions : List ℕ) (l p : ℕ) → n < length literals → l ≡ get_or literals n l
    → ArePositions raw (take n literals) positions → slice_get raw.inputs p ≡ Some l
    → ArePositions raw (take (n + 1) literals) (positions ++ p ∷ [])
positions_more raw n literals positions l p lt is h r =
    let e : suc n ≡ n + 1 = omega arith in
    subst (λ m. ArePositions raw (take m literals) (positions ++ p ∷ [])) e
    (zip_more (λ m q. slice_get raw.inputs q ≡ Some m) n l literals positions p lt h (r ∙ ap Some is))

pub no_positions : (raw : Raw) (n : ℕ) (literals : List ℕ) (l : ℕ) → n < length literals → l ≡ get_or literals n l
    → ((k : ℕ) → slice_get raw.inputs k ≡ Some l → ⊥) → (positions : List ℕ) → ArePositions raw literals positions → ⊥
no_positions raw n literals l lt is none positions h =
    none (get_or positions n 0)
    (AllZip-get_or (λ m q. slice_get raw.inputs q ≡ Some m) literals positions n l 0 h lt ∙ ap Some (sym is))

pub latches_more : (raw : Raw) (n : ℕ) (literals : List ℕ) (l : ℕ) (b : Bool) → n < length literals → l ≡ get_or literals n l
    → All (IsLatchLiteral raw) (take n literals) → b ≡ true → IsTrue b ↔ IsLatchLiteral raw l
    → All (IsLatchLiteral raw) (take (n + 1) literals)
latches_more raw n literals l b lt is h t r =
    subst (All (IsLatchLiteral raw)) (sym (take_more literals n l lt))
    (All-push (IsLatchLiteral raw) (take n literals) (get_or literals n l) h (subst (IsLatchLiteral raw) is (r.0 t)))

pub no_latches : (raw : Raw) (n : ℕ) (literals : List ℕ) (l : ℕ) (b : Bool) → n < length literals → l ≡ get_or literals n l → b ≡ false
    → IsTrue b ↔ IsLatchLiteral raw l → IsTrue false ↔ All (IsLatchLiteral raw) literals
no_latches raw n literals l b lt is f r = (
  λ h. absurd (false≢true h),
  λ h. absurd (false≢true (sym f ∙ r.1 (subst (IsLatchLiteral raw) (sym is) (h n l lt)))),
)

pub latches_all : (raw : Raw) (n : ℕ) (literals : List ℕ) → length literals ≤ n → All (IsLatchLiteral raw) (take n literals)
    → IsTrue true ↔ All (IsLatchLiteral raw) literals
latches_all raw n literals le h = (λ t. subst (All (IsLatchLiteral raw)) (take_all n literals le) h, λ all. refl)
