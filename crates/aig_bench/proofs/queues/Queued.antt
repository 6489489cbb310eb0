-- How many variables of a level wait.
use Rattle.std.proofs.Common.{◌≡◌, inl, inr, ℕ, zero, suc, ◌<◌, ◌≤◌, Bool, true, false, List, [], ◌∷◌, length, Some}
use Rattle.std.proofs.Common.{slice_get, refl, ap, arith}
use Rattle.std.proofs.lemmas.Bool.Decides.{eqb_tells}
use Rattle.aig_base.specs.state.Marks.{IsMarked}
use Rattle.aig_bench.specs.state.Sweep.{queued_count}

pub queued_count_bound : (levels : List ℕ) (marks : List Bool) (l : ℕ) → queued_count levels marks l ≤ length levels
queued_count_bound [] marks l = omega arith
queued_count_bound (n ∷ levels) [] l = omega arith
queued_count_bound (n ∷ levels) (false ∷ marks) l = let h = queued_count_bound levels marks l in omega arith
queued_count_bound (n ∷ levels) (true ∷ marks) l =
    let h = queued_count_bound levels marks l in
    elim (eqb_tells n l) [ inl e ↦ rw e.0 (omega (arith, h)) | inr e ↦ rw e.0 (omega (arith, h)) ]

pub queued_count_le : (levels : List ℕ) (ms ms' : List Bool) (l : ℕ) → length ms ≡ length levels
    → ((v : ℕ) → slice_get levels v ≡ Some l → IsMarked ms' v → IsMarked ms v) → queued_count levels ms' l ≤ queued_count levels ms l
queued_count_le [] ms ms' l size f = omega arith
queued_count_le (n ∷ levels) ms [] l size f = omega arith
queued_count_le (n ∷ levels) [] (m' ∷ ms') l size f = absurd (omega arith)
queued_count_le (n ∷ levels) (false ∷ ms) (false ∷ ms') l size f =
    queued_count_le levels ms ms' l (omega arith) (λ v at k. f (suc v) at k)
queued_count_le (n ∷ levels) (true ∷ ms) (false ∷ ms') l size f =
    let h = queued_count_le levels ms ms' l (omega arith) (λ v at k. f (suc v) at k) in
    elim (eqb_tells n l) [ inl e ↦ rw e.0 (omega (arith, h)) | inr e ↦ rw e.0 (omega (arith, h)) ]
queued_count_le (n ∷ levels) (true ∷ ms) (true ∷ ms') l size f =
    let h = queued_count_le levels ms ms' l (omega arith) (λ v at k. f (suc v) at k) in omega (arith, h)
queued_count_le (n ∷ levels) (false ∷ ms) (true ∷ ms') l size f =
    let h = queued_count_le levels ms ms' l (omega arith) (λ v at k. f (suc v) at k) in
    elim (eqb_tells n l) [
      | inl e ↦ absurd (let k : Some false ≡ Some true = f 0 (ap Some e.1) refl in cc)
      | inr e ↦ rw e.0 (omega (arith, h))
    ]

pub queued_count_less : (levels : List ℕ) (ms ms' : List Bool) (l v : ℕ) → length ms ≡ length levels
    → ((u : ℕ) → slice_get levels u ≡ Some l → IsMarked ms' u → IsMarked ms u)
    → slice_get levels v ≡ Some l → IsMarked ms v → (IsMarked ms' v → ⊥) → queued_count levels ms' l < queued_count levels ms l
queued_count_less [] ms ms' l v size f at m nm = absurd (cc)
queued_count_less (n ∷ levels) [] ms' l v size f at m nm = absurd (omega arith)
queued_count_less (n ∷ levels) (b ∷ ms) [] l zero size f at m nm =
    let e : b ≡ true = cc in
    let i : n ≡ l = cc in
    elim (eqb_tells n l) [ inl k ↦ rw (e, k.0) (omega arith) | inr k ↦ absurd (k.1 i) ]
queued_count_less (n ∷ levels) (true ∷ ms) (false ∷ ms') l zero size f at m nm =
    let h = queued_count_le levels ms ms' l (omega arith) (λ u at k. f (suc u) at k) in
    let i : n ≡ l = cc in
    elim (eqb_tells n l) [ inl k ↦ rw k.0 (omega (arith, h)) | inr k ↦ absurd (k.1 i) ]
queued_count_less (n ∷ levels) (false ∷ ms) (b' ∷ ms') l zero size f at m nm = absurd (cc)
queued_count_less (n ∷ levels) (true ∷ ms) (true ∷ ms') l zero size f at m nm = absurd (nm refl)
queued_count_less (n ∷ levels) (false ∷ ms) [] l (suc v) size f at m nm =
    let h = queued_count_less levels ms [] l v (omega arith) (λ u at k. absurd (no_mark u k)) at m nm in omega (arith, h)
  where
    no_mark : (u : ℕ) → IsMarked [] u → ⊥
    no_mark u k = cc
queued_count_less (n ∷ levels) (true ∷ ms) [] l (suc v) size f at m nm =
    let h = queued_count_less levels ms [] l v (omega arith) (λ u at k. absurd (no_mark u k)) at m nm in omega (arith, h)
  where
    no_mark : (u : ℕ) → IsMarked [] u → ⊥
    no_mark u k = cc
queued_count_less (n ∷ levels) (false ∷ ms) (false ∷ ms') l (suc v) size f at m nm =
    queued_count_less levels ms ms' l v (omega arith) (λ u at k. f (suc u) at k) at m nm
queued_count_less (n ∷ levels) (true ∷ ms) (false ∷ ms') l (suc v) size f at m nm =
    let h = queued_count_less levels ms ms' l v (omega arith) (λ u at k. f (suc u) at k) at m nm in omega (arith, h)
queued_count_less (n ∷ levels) (true ∷ ms) (true ∷ ms') l (suc v) size f at m nm =
    let h = queued_count_less levels ms ms' l v (omega arith) (λ u at k. f (suc u) at k) at m nm in omega (arith, h)
queued_count_less (n ∷ levels) (false ∷ ms) (true ∷ ms') l (suc v) size f at m nm =
    let h = queued_count_less levels ms ms' l v (omega arith) (λ u at k. f (suc u) at k) at m nm in
    elim (eqb_tells n l) [
      | inl e ↦ absurd (let k : Some false ≡ Some true = f 0 (ap Some e.1) refl in cc)
      | inr e ↦ rw e.0 (omega (arith, h))
    ]
