-- Sources are put one by one, until a pass starts.
use Rattle.std.proofs.Common.{◌≡◌, ◌≢◌, ◌⊎◌, ◌↔◌, inl, inr, ℕ, ◌+◌, ◌*◌, ◌<◌, Bool, false, List, [], ◌∷◌, length}
use Rattle.std.proofs.Common.{replicate, Some, slice_get, slice_set, Contains, refl, sym, ap, ◌∙◌, subst}
use Rattle.std.proofs.lemmas.List.{length-replicate}
use Rattle.aig_parts.specs.declared.ternary.Tern.{Tern}
use Rattle.aig_parts.specs.declared.gate.Gate.{Gate}
use Rattle.aig_base.specs.Grounded.{IsSource}
use Rattle.aig_parts.specs.Literal.{variable}
use Rattle.aig_base.specs.state.Marks.{IsMarked}
use Rattle.aig_base.specs.Sound.{IsSound}
use Rattle.aig_base.specs.Value.{start_of}
use Rattle.aig_base.proofs.circuits.Gates.{same_gate}
use Rattle.aig_base.proofs.circuits.Circuits.{gate_is, source-gate}
use Rattle.aig_base.proofs.lists.Positions.{Contains-cons, contains_or_not, no_element}
use Rattle.aig_base.proofs.values.UniqueValue.{unique}
use Rattle.aig_bench.specs.BenchState.{CircuitAndRows, HasValue}
use Rattle.aig_bench.specs.state.Current.{HoldsInPair, HoldsSourcesInPair}
use Rattle.aig_bench.specs.state.Entry.{Entering}
use Rattle.aig_bench.specs.state.Passing.{Differs, IsTouched, IsTouchedSoFar}
use Rattle.aig_base.specs.Readers.{ReadsVariable, IsSide}
use Rattle.aig_bench.specs.state.Sweep.{PassStarts}
use Rattle.aig_bench.proofs.cells.CellLemmas.{get_set_other}
use Rattle.aig_bench.proofs.queues.Chained.{head_in, in_tail, none_marked}
use Rattle.aig_bench.proofs.cells.Values.{holds_new, holds_still}

module _ (p : CircuitAndRows) (t : ℕ) (forced : ℕ → Type 0) (old : List Tern) (sound : IsSound p.circuit) where
  pub entering_none : (marks : List Bool) → ((u : ℕ) → IsMarked marks u ↔ forced u)
      → Entering p t forced old old marks []
  entering_none marks h = record {
    sources = λ v i. absurd (no_element v i);
    holds = λ v i. absurd (no_element v i);
    others = λ v out. refl;
    queued = λ u. (
      λ m. inl ((h u).0 m),
      λ k. elim k [ inl f ↦ (h u).1 f | inr w ↦ absurd (no_element w.0 w.1) ],
    );
  }

  same_value : (v : ℕ) (a b : Tern) → HasValue p t (2 * v) a → HasValue p t (2 * v) b → a ≡ b
  same_value v a b x y = unique p.circuit (start_of p.circuit) p.rows sound x y

  module _ (row : List Tern) (marks marks' : List Bool) (xs : List ℕ) (v : ℕ) (w : Tern)
      (h : Entering p t forced old row marks xs) (source : IsSource p.circuit v) (wide : v < length row)
      (value : HasValue p t (2 * v) w)
      (moved : (u : ℕ) → IsMarked marks' u ↔ (IsMarked marks u ⊎ (ReadsVariable p.circuit u v × (slice_get row v ≢ Some w)))) where
    abbrev row' : List Tern
    row' = slice_set row v w

    -- a cell that changes differs
    fresh_differs : slice_get row v ≢ Some w → Differs p t old v
    fresh_differs ne = elim (contains_or_not xs v) [
      | inl i ↦
          let k = h.holds v i in
          let e : k.cell ≡ w = same_value v k.cell w k.value_is value in
          absurd (ne (k.cell_is ∙ ap Some e))
      | inr out ↦ record { value = w; value_is = value; other = λ e. ne (h.others v out ∙ e) }
    ]

    differs_fresh : (Contains xs v → ⊥) → Differs p t old v → slice_get row v ≢ Some w
    differs_fresh out d e =
        let k : w ≡ d.value = same_value v w d.value value d.value_is in
        d.other (sym (h.others v out) ∙ e ∙ ap Some k)

    before : (u : ℕ) → IsMarked marks u → IsMarked marks' u
    before u m = (moved u).1 (inl m)

    back : (u : ℕ) → ReadsVariable p.circuit u v → Differs p t old v → IsMarked marks' u
    back u r d = elim (contains_or_not xs v) [
      | inl i ↦ before u ((h.queued u).1 (inr (v, i, r, d)))
      | inr out ↦ (moved u).1 (inr (r, differs_fresh out d))
    ]

    pub entering_more : Entering p t forced old row' marks' (v ∷ xs)
    entering_more = record {
      sources = λ u i. elim (Contains-cons v xs u i) [
        | inl e ↦ subst (IsSource p.circuit) (sym e) source
        | inr j ↦ h.sources u j
      ];
      holds = λ u i. elim (Contains-cons v xs u i) [
        | inl e ↦ subst (HoldsInPair p t row') (sym e) (holds_new p t row v w wide value)
        | inr j ↦ holds_still p t row v w wide value u (h.holds u j)
      ];
      others = λ u out.
          let ne : u ≢ v = λ e. out (subst (Contains (v ∷ xs)) (sym e) (head_in v xs)) in
          get_set_other row v u w ne ∙ h.others u (λ i. out (in_tail v xs u i));
      queued = λ u. (
        λ m. elim ((moved u).0 m) [
          | inl k ↦ elim ((h.queued u).0 k) [
            | inl f ↦ inl f
            | inr x ↦ inr (x.0, in_tail v xs x.0 x.1, x.2, x.3)
          ]
          | inr k ↦ inr (v, head_in v xs, k.0, fresh_differs k.1)
        ],
        λ k. elim k [
          | inl f ↦ before u ((h.queued u).1 (inl f))
          | inr x ↦ elim (Contains-cons v xs x.0 x.1) [
            | inl e ↦ back u (subst (ReadsVariable p.circuit u) e x.2) (subst (Differs p t old) e x.3)
            | inr j ↦ before u ((h.queued u).1 (inr (x.0, j, x.2, x.3)))
          ]
        ],
      );
    }

  abbrev none : List Bool
  none = replicate (p.circuit.max_var + 1) false

  not_done : (v : ℕ) → IsMarked none v → ⊥
  not_done = none_marked (p.circuit.max_var + 1) [] [] none refl

  -- where the sources that were not put have their values in the old cells, a pass starts
  pub entered : (row : List Tern) (marks : List Bool) (xs : List ℕ) → Entering p t forced old row marks xs
      → ((v : ℕ) → IsSource p.circuit v → (Contains xs v → ⊥) → HoldsInPair p t old v)
      → PassStarts p t forced old row marks
  entered row marks xs h rest = record {
    done = none;
    size = length-replicate (p.circuit.max_var + 1) false;
    none = not_done;
    passing = record {
      sources = source;
      evaluated = λ q g at d. absurd (not_done (variable g.lhs) d);
      others = λ q g at nd. h.others (variable g.lhs)
          (λ i. source-gate p.circuit sound (variable g.lhs) (h.sources (variable g.lhs) i) (gate_is p.circuit q g at));
      linked = λ q g at r. inl ((h.queued (variable g.lhs)).1 (reached q g at r));
      queued_count = λ q g at m. (touched q g at ((h.queued (variable g.lhs)).0 m), not_done (variable g.lhs));
    };
  }
    where
      source : HoldsSourcesInPair p t row
      source v s = elim (contains_or_not xs v) [
        | inl i ↦ h.holds v i
        | inr out ↦
            let k = rest v s out in
            record { cell = k.cell; cell_is = h.others v out ∙ k.cell_is; value_is = k.value_is }
      ]

      put : (u : ℕ) → IsSource p.circuit u → Differs p t old u → Contains xs u
      put u s d = elim (contains_or_not xs u) [
        | inl i ↦ i
        | inr out ↦
            let k = rest u s out in
            let e : k.cell ≡ d.value = same_value u k.cell d.value k.value_is d.value_is in
            absurd (d.other (k.cell_is ∙ ap Some e))
      ]

      reached : (q : ℕ) (g : Gate) → slice_get p.circuit.gates q ≡ Some g → IsTouchedSoFar p t forced old none g
          → forced (variable g.lhs)
          ⊎ ((v : ℕ) × Contains xs v × ReadsVariable p.circuit (variable g.lhs) v × Differs p t old v)
      reached q g at (inl f) = inl f
      reached q g at (inr (u, side, inl s, d)) = inr (u, put u s d, (q, g, at, refl, side), d)
      reached q g at (inr (u, side, inr k, d)) = absurd (not_done u k)

      touched : (q : ℕ) (g : Gate) → slice_get p.circuit.gates q ≡ Some g → forced (variable g.lhs)
          ⊎ ((v : ℕ) × Contains xs v × ReadsVariable p.circuit (variable g.lhs) v × Differs p t old v)
          → IsTouched p t forced old g
      touched q g at (inl f) = inl f
      touched q g at (inr (v, i, (r, x, there, e, side), d)) =
          inr (v, subst (λ (z : Gate). IsSide z v) (same_gate p.circuit sound r q x g there at e) side, d)
