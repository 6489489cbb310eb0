-- Lists of latches: one chain of all that is marked.
use Rattle.std.proofs.Common.{◌≡◌, ◌≢◌, ◌⊎◌, ◌↔◌, inl, inr, ℕ, zero, suc, ◌+◌, ◌<◌, Bool, true, false, List, [], ◌∷◌}
use Rattle.std.proofs.Common.{length, replicate, set, get_or, Some, slice_get, nat_eq, refl, sym, ap, ◌∙◌, arith}
use Rattle.std.proofs.Common.{IsTrue}
use Rattle.std.proofs.lemmas.Bool.{false≢true}
use Rattle.std.proofs.lemmas.Bool.Decides.{eqb_tells}
use Rattle.std.proofs.lemmas.List.{length-replicate}
use Rattle.std.proofs.lemmas.Option.{slice_get_within}
use Rattle.aig_base.specs.state.Marks.{IsMarked}
use Rattle.aig_bench.specs.declared.propagate.latch_list.LatchList.{LatchList}
use Rattle.aig_bench.specs.state.Buckets.{AreChained}
use Rattle.aig_bench.specs.state.Latches.{IsLatchList, IsInLatchList}
use Rattle.aig_bench.specs.state.Sweep.{queued_count}
use Rattle.aig_bench.proofs.queues.Chained.{linked, linked_queued, none_of_level, first_queued, first_inside}
use Rattle.aig_bench.proofs.queues.Chained.{first_inside_marks, taken_queued, taken, none_marked}
use Rattle.aig_bench.proofs.queues.Queued.{queued_count_less}

zero_at : (n v : ℕ) → v < n → slice_get {X = ℕ} (replicate n 0) v ≡ Some 0
zero_at zero v lt = absurd (omega arith)
zero_at (suc n) zero lt = refl
zero_at (suc n) (suc v) lt = zero_at n v (omega arith)

module _ (n first : ℕ) (next : List ℕ) (marks : List Bool) (size : length marks ≡ n + 1)
    (h : AreChained (replicate (n + 1) 0) (first ∷ []) next marks) where
  marked_zero : (v : ℕ) → IsMarked marks v → slice_get {X = ℕ} (replicate (n + 1) 0) v ≡ Some 0
  marked_zero v m = zero_at (n + 1) v (let lt = slice_get_within marks v true m in omega arith)

  module _ (v : ℕ) (positive : 0 < v) (inside : v < length marks) (unmarked : IsMarked marks v → ⊥) where
    at : slice_get {X = ℕ} (replicate (n + 1) 0) v ≡ Some 0
    at = zero_at (n + 1) v (omega (arith, inside, size))

    pub list_linked : AreChained (replicate (n + 1) 0) (v ∷ []) (set next v first) (set marks v true)
    list_linked = linked (replicate (n + 1) 0) (first ∷ []) next marks h v 0 first at (omega arith) positive refl unmarked

    pub list_queued : (u : ℕ) → IsMarked (set marks v true) u ↔ (IsMarked marks u ⊎ (u ≡ v))
    list_queued = linked_queued (replicate (n + 1) 0) (first ∷ []) next marks h v 0 first at (omega arith) positive refl unmarked

  pub list_none : first ≡ 0 → (u : ℕ) → IsMarked marks u → ⊥
  list_none e u m = none_of_level (replicate (n + 1) 0) (first ∷ []) next marks h 0 (omega arith) e u m (marked_zero u m)

  module _ (some : first ≢ 0) where
    pub list_first : IsMarked marks first
    list_first = first_queued (replicate (n + 1) 0) (first ∷ []) next marks h 0 (omega arith) first refl some

    pub list_inside : first < length next
    list_inside = first_inside (replicate (n + 1) 0) (first ∷ []) next marks h 0 (omega arith) first refl some

    pub list_inside_marks : first < length marks
    list_inside_marks = first_inside_marks (replicate (n + 1) 0) (first ∷ []) next marks h 0 (omega arith) first refl some

    pub list_left : (u : ℕ) → IsMarked (set marks first false) u ↔ (IsMarked marks u × (u ≢ first))
    list_left = taken_queued (replicate (n + 1) 0) (first ∷ []) next marks h 0 (omega arith) first refl some

    pub list_taken : (second : ℕ) → second ≡ get_or next first second
        → AreChained (replicate (n + 1) 0) (second ∷ []) next (set marks first false)
    list_taken second then = taken (replicate (n + 1) 0) (first ∷ []) next marks h 0 (omega arith) first refl some second then

-- how many latches a list has
abbrev pub listed : List Bool → ℕ
listed marks = queued_count (replicate (length marks) 0) marks 0

pub listed_less : (n i : ℕ) (old new : LatchList) → IsLatchList n old → IsLatchList n new → IsInLatchList old i
    → ((j : ℕ) → IsInLatchList new j ↔ (IsInLatchList old j × (j ≢ i))) → listed new.marks.items < listed old.marks.items
listed_less n i old new h k m left =
    rw (h.size, k.size) (queued_count_less (replicate (n + 1) 0) old.marks.items new.marks.items 0 i
    (h.size ∙ sym (length-replicate (n + 1) 0)) (λ u at l. ((left u).0 l).0)
    (zero_at (n + 1) i (let lt = slice_get_within old.marks.items i true m in let s = h.size in omega arith)) m
    (λ l. ((left i).0 l).1 refl))

-- a new list
pub list_new : (n : ℕ) (l : LatchList) → l.first ≡ 0 → l.next.items ≡ replicate (n + 1) 0
    → l.marks.items ≡ replicate (n + 1) false → IsLatchList n l
list_new n l e next marks = record {
  size = ap length marks ∙ length-replicate (n + 1) false;
  chained = rw e (chained_empty (n + 1) l.next.items l.marks.items next marks);
}
  where
    first_zero : (l : ℕ) → ◌≡◌ {A = ℕ} (get_or (0 ∷ []) l 0) 0
    first_zero zero = refl
    first_zero (suc l) = refl

    chained_empty : (size : ℕ) (next : List ℕ) (marks : List Bool) → next ≡ replicate size 0 → marks ≡ replicate size false
        → AreChained (replicate size 0) (0 ∷ []) next marks
    chained_empty size next marks en em = record {
      marks_size = ap length em ∙ length-replicate size false ∙ sym (length-replicate size 0);
      next_size = ap length en;
      chains = λ l lt. record {
        chain = [];
        leads = first_zero l;
        each = λ v. (λ i. absurd (omega (arith, i.1)), λ k. absurd (none_marked size [] [] marks em v k.0));
      };
      placed = λ v m. absurd (none_marked size [] [] marks em v m);
    }

-- there is a first one exactly where there is any
pub list_empty : (n : ℕ) (l : LatchList) → IsLatchList n l → IsTrue (nat_eq l.first 0) ↔ ((i : ℕ) → IsInLatchList l i → ⊥)
list_empty n l h = elim (eqb_tells l.first 0) [
  | inl e ↦ (λ t. list_none n l.first l.next.items l.marks.items h.size h.chained e.1, λ k. e.0)
  | inr e ↦ (
    λ t. absurd (false≢true (sym e.0 ∙ t)),
    λ k. absurd (k l.first (list_first n l.first l.next.items l.marks.items h.size h.chained e.1)),
  )
]
