-- Latches are put one by one, and then a pass starts.
use Rattle.std.proofs.Common.{◌≡◌, ◌≢◌, ◌⊎◌, ◌↔◌, inl, inr, ℕ, ◌*◌, ◌<◌, ◌≤◌, Bool, List, [], ◌∷◌, length, Some}
use Rattle.std.proofs.Common.{slice_get, slice_set, Contains, sym, ap, ◌∙◌, subst, arith}
use Rattle.std.proofs.lemmas.Bool.{cases_eq}
use Rattle.std.proofs.lemmas.Option.{same_Some}
use Rattle.aig_parts.specs.declared.ternary.Tern.{Tern}
use Rattle.aig_parts.specs.declared.latch.Latch.{Latch}
use Rattle.aig_base.specs.Grounded as by
use Rattle.aig_base.specs.Grounded.{IsSource}
use Rattle.aig_parts.specs.Literal.{variable}
use Rattle.aig_base.specs.state.Marks.{IsMarked}
use Rattle.aig_base.specs.Readers.{ReadsVariable}
use Rattle.aig_base.specs.Sound.{IsSound}
use Rattle.aig_base.specs.Sections.{IsGate}
use Rattle.aig_base.proofs.lists.Positions.{no_element}
use Rattle.aig_base.proofs.circuits.Circuits.{gate_definition, gate_in_range}
use Rattle.aig_base.proofs.circuits.Gates.{gate_of}
use Rattle.aig_base.proofs.levels.OneLevel.{level_of_gate}
use Rattle.aig_values.specs.InputRows.{row_at}
use Rattle.aig_bench.specs.declared.propagate.buckets.Buckets.{Buckets}
use Rattle.aig_bench.specs.declared.engine.driven_circuit.DrivenCircuit.{DrivenCircuit}
use Rattle.aig_bench.specs.declared.engine.fanouts.Fanouts.{Fanouts}
use Rattle.aig_bench.specs.state.Buckets.{AreBuckets, CanBeQueued, Links}
use Rattle.aig_bench.specs.state.Renewed.{Renewed}
use Rattle.aig_bench.specs.BenchState.{CircuitAndRows, HasValue}
use Rattle.aig_bench.specs.state.Current.{HoldsInPair, IsCurrentRow, IsCurrentBefore}
use Rattle.aig_bench.specs.state.Engine.{IsClear}
use Rattle.aig_bench.specs.state.Entry.{Entering, Puts, Carries, HasOtherSources}
use Rattle.aig_bench.specs.state.Sweep.{PassStarts, IsWork}
use Rattle.aig_bench.specs.state.Waiting.{HaveSides}
use Rattle.aig_bench.proofs.queues.Chained.{head_in, in_tail}
use Rattle.aig_bench.proofs.carries.Entries.{entering_none, entering_more, entered}
use Rattle.aig_bench.proofs.cells.Values.{constant_holds}

module _ (p : CircuitAndRows) (t : ℕ) (sound : IsSound p.circuit) where
  pub puts : (v : ℕ) (w : Tern) (row row' : List Tern) (marks marks' : List Bool) → IsSource p.circuit v → v < length row
      → row' ≡ slice_set row v w → HasValue p t (2 * v) w
      → ((u : ℕ) → IsMarked marks' u ↔ (IsMarked marks u ⊎ (ReadsVariable p.circuit u v × (slice_get row v ≢ Some w))))
      → Puts p t v row marks row' marks'
  puts v w row row' marks marks' source wide is value moved = record {
    enter = λ forced old put h. rw is (entering_more p t (Contains forced) old sound row marks marks' put v w h source wide value moved);
  }

  pub carries_none : (here : ℕ → Type 0) (row : List Tern) (marks : List Bool) → ((i : ℕ) → here i → ⊥)
      → Carries p t here row marks row marks
  carries_none here row marks none = record {
    carry = λ forced old put h. record {
      now_put = put;
      entering = h;
      kept = λ v i. i;
      latches = λ i x k at. absurd (none i k);
    };
  }

  -- one more latch
  pub carries_more : (here now : ℕ → Type 0) (n : ℕ) (x : Latch) (row mid new : List Tern) (marks marks' marks'' : List Bool)
      → slice_get p.circuit.latches n ≡ Some x → Carries p t here row marks mid marks'
      → Puts p t (variable x.lit) mid marks' new marks'' → ((i : ℕ) → now i → (i ≡ n) ⊎ here i)
      → Carries p t now row marks new marks''
  carries_more here now n x row mid new marks marks' marks'' at h k only = record {
    carry = λ forced old put e.
        let c = h.carry forced old put e in
        record {
          now_put = variable x.lit ∷ c.now_put;
          entering = k.enter forced old c.now_put c.entering;
          kept = λ v i. in_tail (variable x.lit) c.now_put v (c.kept v i);
          latches = λ i y j is. elim (only i j) [
            | inl e ↦
                let same : y ≡ x = same_Some y x (sym is ∙ ap (slice_get p.circuit.latches) e ∙ at) in
                subst (λ (z : Latch). Contains (variable x.lit ∷ c.now_put) (variable z.lit)) (sym same)
                (head_in (variable x.lit) c.now_put)
            | inr o ↦ in_tail (variable x.lit) c.now_put (variable y.lit) (c.latches i y o is)
          ];
        };
  }

  -- the latches that were put and those that were right: a pass starts
  pub started : (here : ℕ → Type 0) (forced : List ℕ) (old row new : List Tern) (marks marks' : List Bool) (put : List ℕ)
      → ((i : ℕ) (x : Latch) → slice_get p.circuit.latches i ≡ Some x → here i ⊎ HoldsInPair p t old (variable x.lit))
      → Carries p t here row marks new marks' → Entering p t (Contains forced) old row marks put
      → HasOtherSources p t old put → PassStarts p t (Contains forced) old new marks'
  started here forced old row new marks marks' put all h e rest =
      let c = h.carry forced old put e in
      entered p t (Contains forced) old sound new marks' c.now_put c.entering (λ v s out. of v s c.now_put (c.kept v) c.latches out)
    where
      of : (v : ℕ) → IsSource p.circuit v → (xs : List ℕ) → (Contains put v → Contains xs v)
          → ((i : ℕ) (x : Latch) → here i → slice_get p.circuit.latches i ≡ Some x → Contains xs (variable x.lit))
          → (Contains xs v → ⊥) → HoldsInPair p t old v
      of v by.IsSource.constant xs kept latches out = constant_holds p t old rest.constant
      of v (by.IsSource.input i l at) xs kept latches out = rest.inputs i l at (λ k. out (kept k))
      of v (by.IsSource.latch i x at) xs kept latches out = elim (all i x at) [
        | inl k ↦ absurd (out (latches i x k at))
        | inr o ↦ o
      ]

-- the rows before a frame stay where that frame alone changes
pub before_kept : (p : CircuitAndRows) (t : ℕ) (cells cells' : List (List Tern)) → IsCurrentBefore p t cells
    → ((u : ℕ) → u ≢ t → row_at cells' u ≡ row_at cells u) → IsCurrentBefore p t cells'
before_kept p t cells cells' h others u e =
    let ne : u ≢ t = λ k. omega arith in subst (IsCurrentRow p u) (sym (others u ne)) (h u e)

-- after renewed frames the row before is current
pub before_here : (p : CircuitAndRows) (forced : List ℕ) (first t e c : ℕ) (old new : List (List Tern))
    → Renewed p forced first t old new e c → first ≤ t → IsCurrentBefore p first old → IsCurrentBefore p t new
before_here p forced first t e c old new h le before u is = elim (cases_eq t first) [
  | inl k ↦ subst (IsCurrentRow p u) (sym (h.others u (inl (omega arith)))) (before u (sym k ∙ is))
  | inr ne ↦ h.current u (omega arith, omega arith)
]

-- the gates that are evaluated in any case wait, and nothing else
pub entering_forced : (p : CircuitAndRows) (t : ℕ) (forced : List ℕ) (row : List Tern) (sound : IsSound p.circuit) (marks marks' : List Bool)
    → IsClear marks → ((u : ℕ) → IsMarked marks' u ↔ (IsMarked marks u ⊎ Contains forced u))
    → Entering p t (Contains forced) row row marks' []
entering_forced p t forced row sound marks marks' clear queued =
    entering_none p t (Contains forced) row sound marks' (λ u. (
      λ m. elim ((queued u).0 m) [ inl o ↦ absurd (clear u o) | inr k ↦ k ],
      λ k. (queued u).1 (inr k),
    ))

module _ (driven : DrivenCircuit) (fanouts : Fanouts) (flags : List Bool) (cells : List (List Tern)) (b : Buckets) (work : IsWork driven fanouts flags cells b) where
  -- a gate can wait
  pub gate_fits : (v : ℕ) → IsGate driven.circuit v → CanBeQueued fanouts.levels (length b.head.items) v
  gate_fits v h =
      let (g, q, at, is) = gate_of driven.circuit v h in
      let d = gate_definition driven.circuit work.driven_is.circuit.sound q g at in
      let k = gate_in_range driven.circuit work.driven_is.circuit.sound q g at in
      record {
        positive = omega arith;
        inside = omega (arith, work.levels.size);
        level = λ m stands. work.heads v m h
            (level_of_gate driven.circuit fanouts.levels v m work.levels work.driven_is.circuit.acyclic h stands);
      }

  pub gates_linked : (xs : List ℕ) → ((v : ℕ) → Contains xs v → IsGate driven.circuit v) → (b' : Buckets)
      → AreBuckets fanouts.levels b' → Links (Contains xs) b b' → IsWork driven fanouts flags cells b'
  gates_linked xs are_gates b' are links = record {
    driven_is = work.driven_is;
    laid_out = work.laid_out;
    levels = work.levels;
    readers = work.readers;
    buckets = are;
    sides = subst (HaveSides driven.circuit) (sym links.sides) work.sides;
    size = omega (arith, work.size, links.heads);
    heads = λ u n k h. let below = work.heads u n k h in omega (arith, links.heads);
    gates = λ u k. elim ((links.queued u).0 k) [ inl o ↦ work.gates u o | inr i ↦ are_gates u i ];
  }

-- fewer latches
pub carries_fewer : (p : CircuitAndRows) (t : ℕ) (here now : ℕ → Type 0) (row new : List Tern) (marks marks' : List Bool)
    → ((i : ℕ) → now i → here i) → Carries p t here row marks new marks' → Carries p t now row marks new marks'
carries_fewer p t here now row new marks marks' only h = record {
  carry = λ forced old put e.
      let c = h.carry forced old put e in
      record {
        now_put = c.now_put;
        entering = c.entering;
        kept = c.kept;
        latches = λ i x k at. c.latches i x (only i k) at;
      };
}

-- nothing waits, and one source is put
pub entering_put : (p : CircuitAndRows) (t v : ℕ) (sound : IsSound p.circuit) (marks marks' : List Bool) (old row' : List Tern)
    → IsClear marks → Puts p t v old marks row' marks' → Entering p t (Contains []) old row' marks' (v ∷ [])
entering_put p t v sound marks marks' old row' clear puts =
    puts.enter [] old [] (entering_none p t (Contains []) old sound marks (λ u. (
      λ m. absurd (clear u m),
      λ i. absurd (no_element u i),
    )))
