-- Variables that at least four gates read.
use Rattle.std.proofs.Common.{◌≡◌, ◌⊎◌, inl, inr, ℕ, ◌≤◌, List, [], ◌∷◌, length, nat_eq, count_by, Result, Ok, Err}
use Rattle.std.proofs.Common.{IfErr, subst, arith}
use Rattle.aig_parts.specs.declared.raw.Raw.{Raw}
use Rattle.aig_base.specs.Readers.{AreReaders, ReaderLists, list_of}
use Rattle.aig_base.proofs.fan_outs.ReaderLists.{count-cons, count-of_Contains, one_same}
use Rattle.aig_bench.specs.declared.edit.EditFault.{EditFault}
use Rattle.aig_bench.specs.declared.edit.EditFault.TheVariants as fault
use Rattle.aig_bench.specs.Edit.{rewire, Forbids, IsLeastFault}
use Rattle.aig_bench.specs.Fanout.{HasFourReaders}
use Rattle.aig_bench.specs.BenchState.{CircuitAndRows}
use Rattle.aig_bench.specs.Touched.{IsOnce}

-- a count of a longer list is no less
count_below : (w x : ℕ) (xs : List ℕ) → count_by (nat_eq w) (x ∷ xs) ≤ 1 → count_by (nat_eq w) xs ≤ 1
count_below w x xs h = (let is = count-cons w x xs in omega arith)

-- what is counted at most once stands once
once_counted : (xs : List ℕ) → ((w : ℕ) → count_by (nat_eq w) xs ≤ 1) → IsOnce xs
once_counted [] h = tt
once_counted (x ∷ xs) h = (
  λ k. (let some = count-of_Contains x xs k in
      let is = count-cons x x xs in
      let one_is = one_same x in
      let most = h x in
      absurd (omega arith)),
  once_counted xs (λ w. count_below w x xs (h w)),
)

pub four_readers : (raw : Raw) (lists : ReaderLists) (v : ℕ) → AreReaders raw lists → v ≤ raw.max_var
    → 4 ≤ length (list_of lists v) → HasFourReaders raw v
four_readers raw lists v r le four = record {
  readers = list_of lists v;
  once = once_counted (list_of lists v) (λ w. r.once v w);
  each = λ w k. (r.each v w le).0 k;
  four = four;
}

-- so it is where one of two lists is that long
pub either_four : (raw : Raw) (lists : ReaderLists) (v u : ℕ) → AreReaders raw lists → v ≤ raw.max_var → u ≤ raw.max_var
    → (4 ≤ length (list_of lists v)) ⊎ (4 ≤ length (list_of lists u)) → HasFourReaders raw v ⊎ HasFourReaders raw u
either_four raw lists v u r lv lu (inl h) = inl (four_readers raw lists v r lv h)
either_four raw lists v u r lv lu (inr h) = inr (four_readers raw lists u r lu h)

-- a fault that is passed on
-- what holds of each fault
pub any_fault : {A : Type 0} (P : EditFault → Type 0) (r : Result A EditFault) → ((f : EditFault) → P f) → IfErr r P
any_fault P (Ok a) h = tt
any_fault P (Err f) h = h f

-- out of memory is no fault of a rewire's own
pub no_memory : (p : CircuitAndRows) (lhs r0 r1 : ℕ) (x : EditFault) → IsLeastFault (Forbids p (rewire lhs r0 r1)) x
    → x ≡ fault.Memory → ⊥
no_memory p lhs r0 r1 x h e = (subst (IsLeastFault (Forbids p (rewire lhs r0 r1))) e h).0
