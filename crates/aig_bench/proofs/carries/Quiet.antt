-- Frames into which nothing is carried stay as they are.
use Rattle.std.proofs.Common.{◌≡◌, inr, ℕ, zero, suc, ◌+◌, ◌-◌, ◌<◌, ◌≤◌, Bool, List, [], ◌∷◌, length, Contains, refl}
use Rattle.std.proofs.Common.{sym, subst, arith}
use Rattle.aig_parts.specs.declared.ternary.Tern.{Tern}
use Rattle.aig_parts.specs.Literal.{variable}
use Rattle.aig_values.specs.InputRows.{row_at}
use Rattle.aig_bench.specs.declared.propagate.buckets.Buckets.{Buckets}
use Rattle.aig_bench.specs.declared.engine.driven_circuit.DrivenCircuit.{DrivenCircuit}
use Rattle.aig_bench.specs.declared.engine.fanouts.Fanouts.{Fanouts}
use Rattle.aig_bench.specs.state.Buckets.{IsQueued}
use Rattle.aig_bench.specs.state.Current.{HoldsInPair, HoldsLatchesInPair}
use Rattle.aig_bench.specs.state.Entry.{HasOtherSources}
use Rattle.aig_bench.specs.state.Passing.{IsConsistent}
use Rattle.aig_bench.specs.state.Pending.{IsNextRow}
use Rattle.aig_bench.specs.state.DrivenCircuit.{pair_of}
use Rattle.aig_bench.specs.state.Renewed.{Renewed}
use Rattle.aig_bench.specs.state.Sweep.{IsWork, PassEnds}
use Rattle.aig_bench.proofs.carries.Carrying.{carries_none, started}
use Rattle.aig_bench.proofs.carries.Entries.{entering_none}
use Rattle.aig_bench.proofs.carries.NextLatches.{latch_next_holds}
use Rattle.aig_bench.proofs.renewals.RenewalLemmas.{renewed_none, renewed_one, renewed_join}
use Rattle.aig_bench.proofs.passes.SweepEnds.{ended}
use Rattle.aig_bench.proofs.passes.Sweeps.{sweeps_none, sweeps_far}
use Rattle.aig_base.proofs.lists.Positions.{no_element}

module _ (driven : DrivenCircuit) (fanouts : Fanouts) (flags : List Bool) (cells : List (List Tern)) (b : Buckets)
    (work : IsWork driven fanouts flags cells b) (empty : (v : ℕ) → IsQueued b v → ⊥) where
  -- where all sources have their values and nothing waits, a pass has ended
  quiet_frame : (t : ℕ) (row : List Tern) → IsConsistent (pair_of driven) (Contains []) row → HasOtherSources (pair_of driven) t row []
      → HoldsLatchesInPair (pair_of driven) t row → PassEnds (pair_of driven) t (Contains []) row row b.marks.items 0 0
  quiet_frame t row fits rest latches =
      let p = pair_of driven in
      let sound = work.driven_is.circuit.sound in
      let marks = b.marks.items in
      let none : ℕ → Type 0 = λ i. ⊥ in
      let entering = entering_none p t (Contains []) row sound marks (λ u. (
        λ m. absurd (empty u m),
        λ i. absurd (no_element u i),
      )) in
      let start = started p t sound none [] row row row marks marks [] (λ i x at. inr (latches i x at))
      (carries_none p t sound none row marks (λ i k. k)) entering rest in
      ended driven fanouts flags cells b t (length b.head.items) 0 0 [] row row row marks work (omega arith) fits start
      (sweeps_far p t fanouts.levels 0 0 (length b.head.items) row row marks marks 0 0 work.levels (sweeps_none p t 0 row marks)
      (omega arith) (λ u l m at ge lt. empty u m))

  module _ (n : ℕ) (rows : List (List Tern)) (first : ℕ)
      (fits : (t : ℕ) → first ≤ t → t < n → IsConsistent (pair_of driven) (Contains []) (row_at rows t)
      × HasOtherSources (pair_of driven) t (row_at rows t) [])
      (next : (t : ℕ) → first ≤ t → suc t < n → IsNextRow driven.circuit (row_at rows t) (row_at rows (suc t))) where
    -- from a frame on at which all latches have their values
    pub quiet : (k t : ℕ) → t + k ≡ n → first ≤ t → (t < n → HoldsLatchesInPair (pair_of driven) t (row_at rows t))
        → Renewed (pair_of driven) [] t n rows rows 0 0
    quiet zero t e le latches =
        let same : t ≡ n = omega arith in
        subst (λ (m : ℕ). Renewed (pair_of driven) [] t m rows rows 0 0) same (renewed_none (pair_of driven) [] t rows)
    quiet (suc k) t e le latches =
        let lt : t < n = omega arith in
        let f = fits t le lt in
        let ends = quiet_frame t (row_at rows t) f.0 f.1 (latches lt) in
        let one = renewed_one (pair_of driven) [] t 0 0 rows rows b.marks.items (λ u ne. refl) ends in
        let rest = quiet k (t + 1) (omega arith) (omega arith) (λ more i x at.
        let less : suc t < n = omega arith in
        let is : suc t ≡ t + 1 = omega arith in
        subst (λ (m : ℕ). HoldsInPair (pair_of driven) m (row_at rows m) (variable x.lit)) is
        (latch_next_holds (pair_of driven) t work.driven_is.circuit.sound (row_at rows t) (row_at rows (suc t)) i x at
        ends.current (next t le less i x at))) in
        renewed_join (pair_of driven) [] t (t + 1) n 0 0 0 0 rows rows rows (omega arith) (omega arith) one rest

  -- frames were renewed, and nothing is carried into the next one: all that are left stay
  pub stopped : (n first t e c : ℕ) (forced : List ℕ) (old new : List (List Tern)) → length forced ≡ 0
      → Renewed (pair_of driven) forced first t old new e c → first ≤ t → t ≤ n
      → ((u : ℕ) → first ≤ u → u < n → IsConsistent (pair_of driven) (Contains forced) (row_at old u)
      × HasOtherSources (pair_of driven) u (row_at old u) [])
      → ((u : ℕ) → first ≤ u → suc u < n → IsNextRow driven.circuit (row_at old u) (row_at old (suc u)))
      → (t < n → HoldsLatchesInPair (pair_of driven) t (row_at new t)) → Renewed (pair_of driven) forced first n old new e c
  stopped n first t e c [] old new size r le end fits next latches =
      let p = pair_of driven in
      let kept : (u : ℕ) → t ≤ u → row_at old u ≡ row_at new u = λ u over. sym (r.others u (inr over)) in
      let rest = quiet n new t (λ u over lt. subst (λ (row : List Tern). IsConsistent p (Contains []) row × HasOtherSources p u row [])
      (kept u over) (fits u (omega arith) lt))
      (λ u over lt. subst (λ (row : List Tern). IsNextRow driven.circuit row (row_at new (suc u))) (kept u over)
      (subst (λ (row : List Tern). IsNextRow driven.circuit (row_at old u) row) (kept (suc u) (omega arith))
      (next u (omega arith) lt))) (n - t) t (omega arith) (omega arith) latches in
      let e0 : e + 0 ≡ e = omega arith in
      let c0 : c + 0 ≡ c = omega arith in
      subst (λ (k : ℕ). Renewed p [] first n old new k c) e0
      (subst (λ (k : ℕ). Renewed p [] first n old new (e + 0) k) c0
      (renewed_join p [] first t n e 0 c 0 old new new le end r rest))
  stopped n first t e c (v ∷ forced) old new size r le end fits next latches = absurd (omega arith)
