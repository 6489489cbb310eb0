-- The levels of which no variable waits.
use Rattle.std.proofs.Common.{◌≡◌, ℕ, ◌<◌, ◌≤◌, inl, inr, zero, suc, List, length, get_or, replicate, refl, arith}
use Rattle.std.proofs.lemmas.Bool.{cases_eq}
use Rattle.aig_bench.specs.declared.propagate.buckets.Buckets.{Buckets}
use Rattle.aig_bench.specs.state.Buckets.{AreBuckets, AreLevelsEmpty, IsOccupied}
use Rattle.aig_parts.specs.state.Bits.{HasBit}
use Rattle.aig_bench.specs.state.LevelSet.{HasNone}
use Rattle.aig_bench.proofs.queues.Chained.{none_of_level}

module _ (levels : List ℕ) (b : Buckets) (from : ℕ) (h : AreBuckets levels b) where
  none_first : (l : ℕ) → (HasBit b.occupied l → ⊥) → get_or b.head.items l 0 ≡ 0
  none_first l out = elim (cases_eq (get_or b.head.items l 0) 0) [
    | inl e ↦ e
    | inr ne ↦ absurd (out ((h.occupied l).1 ne))
  ]

  -- levels that are not in the set
  pub clear_to : (end : ℕ) → end ≤ length b.head.items → HasNone b.occupied from end → AreLevelsEmpty levels b from end
  clear_to end inside none u l k at le below =
      let lt : l < length b.head.items = omega arith in
      let e = none_first l (none l le below) in
      none_of_level levels b.head.items b.marks.next b.marks.items h.chained l lt e u k at

-- no level is in the set, and no chain has a variable
pub none_occupied : (head occupied : List ℕ) (n : ℕ) → head ≡ replicate n 0 → ((l : ℕ) → HasBit occupied l → ⊥)
    → IsOccupied head occupied
none_occupied head occupied n is none l =
    let zero : get_or head l 0 ≡ 0 = rw is (of_zeros n l) in
    (λ h. absurd (none l h), λ some. absurd (some zero))
  where
    of_zeros : (n l : ℕ) → let none : ℕ = 0 in get_or (replicate n none) l none ≡ none
    of_zeros zero l = refl
    of_zeros (suc n) zero = refl
    of_zeros (suc n) (suc l) = of_zeros n l
