-- A pass over one frame: some gates were evaluated, some wait, and the others have their cells of before.
use Rattle.std.proofs.Common.{◌≡◌, ◌≢◌, ◌⊎◌, inl, inr, ℕ, ◌+◌, ◌<◌, ◌≤◌, max, Bool, true, false, List, Option, Some}
use Rattle.std.proofs.Common.{None, slice_get, refl, sym, ap, ◌∙◌, subst, arith}
use Rattle.aig_parts.specs.declared.ternary.Tern.{Tern}
use Rattle.aig_parts.specs.declared.ternary.Tern.TheVariants.{Zero, One, X}
use Rattle.aig_parts.specs.declared.gate.Gate.{Gate}
use Rattle.aig_base.specs.Grounded as by
use Rattle.aig_base.specs.Grounded.{IsSource, IsAcyclic, Level}
use Rattle.aig_parts.specs.Literal.{variable}
use Rattle.aig_base.specs.state.Marks.{IsMarked}
use Rattle.aig_base.specs.Sound.{IsSound}
use Rattle.aig_base.specs.Value.{start_of}
use Rattle.aig_base.specs.Readers.{IsSide}
use Rattle.aig_base.proofs.rewires.Renewing.{From, from_level}
use Rattle.aig_base.proofs.circuits.Circuits.{rhs0_defined, rhs1_defined}
use Rattle.aig_base.proofs.circuits.Defined.{Grounded-of_defined}
use Rattle.aig_base.proofs.levels.OneLevel.{level_of}
use Rattle.aig_base.proofs.values.UniqueValue.{unique}
use Rattle.aig_values.specs.Cells.{gate_value}
use Rattle.aig_bench.specs.BenchState.{CircuitAndRows}
use Rattle.aig_bench.specs.state.Current.{HoldsInPair, IsCurrentRow}
use Rattle.aig_bench.specs.state.Passing.{Differs, IsTouched, IsTouchedSoFar, Passing, IsConsistent}
use Rattle.aig_bench.proofs.cells.Values.{gate_has_value}

is_true_or_not : (o : Option Bool) → (o ≡ Some true) ⊎ (o ≡ Some true → ⊥)
is_true_or_not None = inr (λ e. cc)
is_true_or_not (Some true) = inl refl
is_true_or_not (Some false) = inr (λ e. cc)

pub marked_or_not : (marks : List Bool) (v : ℕ) → IsMarked marks v ⊎ (IsMarked marks v → ⊥)
marked_or_not marks v = is_true_or_not (slice_get marks v)

pub same_or_other : (o : Option Tern) (w : Tern) → (o ≡ Some w) ⊎ (o ≢ Some w)
same_or_other None w = inr (λ e. cc)
same_or_other (Some Zero) Zero = inl refl
same_or_other (Some Zero) One = inr (λ e. cc)
same_or_other (Some Zero) X = inr (λ e. cc)
same_or_other (Some One) Zero = inr (λ e. cc)
same_or_other (Some One) One = inl refl
same_or_other (Some One) X = inr (λ e. cc)
same_or_other (Some X) Zero = inr (λ e. cc)
same_or_other (Some X) One = inr (λ e. cc)
same_or_other (Some X) X = inl refl

module _ (p : CircuitAndRows) (t : ℕ) (forced : ℕ → Type 0) (old row : List Tern) (marks done : List Bool)
    (sound : IsSound p.circuit) (h : Passing p t forced old row marks done) where
  of_others : (r : ℕ) (x : Gate) (u : ℕ) → slice_get p.circuit.gates r ≡ Some x → variable x.lhs ≡ u
      → (IsMarked done u → ⊥) → slice_get row u ≡ slice_get old u
  of_others r x u there is nd =
      subst (λ (v : ℕ). slice_get row v ≡ slice_get old v) is
      (h.others r x there (λ d. nd (subst (IsMarked done) is d)))

  different : (g : Gate) (u : ℕ) → IsSide g u → (IsTouchedSoFar p t forced old done g → ⊥) → From p.circuit u
      → (k : HoldsInPair p t row u) → slice_get old u ≢ Some k.cell → ⊥
  different g u side never (inl s) k ne =
      never (inr (u, side, inl s, record { value = k.cell; value_is = k.value_is; other = ne }))
  different g u side never (inr (r, x, there, is)) k ne = elim (marked_or_not done u) [
    | inl d ↦ never (inr (u, side, inr d, record { value = k.cell; value_is = k.value_is; other = ne }))
    | inr nd ↦ ne (sym (of_others r x u there is nd) ∙ k.cell_is)
  ]

  -- a side of a gate that is not reached has its value in the old cell
  old_side : (g : Gate) (u : ℕ) → IsSide g u → (IsTouchedSoFar p t forced old done g → ⊥) → From p.circuit u
      → HoldsInPair p t row u → HoldsInPair p t old u
  old_side g u side never f k = elim (same_or_other (slice_get old u) k.cell) [
    | inl e ↦ record { cell = k.cell; cell_is = e; value_is = k.value_is }
    | inr ne ↦ absurd (different g u side never f k ne)
  ]

  unevaluated : (q : ℕ) (g : Gate) → slice_get p.circuit.gates q ≡ Some g → IsConsistent p forced old
      → (IsMarked done (variable g.lhs) → ⊥) → (IsTouchedSoFar p t forced old done g → ⊥)
      → From p.circuit (variable g.rhs0) → From p.circuit (variable g.rhs1)
      → HoldsInPair p t row (variable g.rhs0) → HoldsInPair p t row (variable g.rhs1) → HoldsInPair p t row (variable g.lhs)
  unevaluated q g at fits nd never f0 f1 h0 h1 = elim (fits q g at) [
    | inl f ↦ absurd (never (inl f))
    | inr e ↦ record {
      cell = gate_value old g;
      cell_is = h.others q g at nd ∙ e;
      value_is = gate_has_value p t old q g sound at (old_side g (variable g.rhs0) (inl refl) never f0 h0)
          (old_side g (variable g.rhs1) (inr refl) never f1 h1);
    }
  ]

  gate_done_below : (q : ℕ) (g : Gate) → slice_get p.circuit.gates q ≡ Some g → IsConsistent p forced old
      → (IsMarked marks (variable g.lhs) → ⊥)
      → From p.circuit (variable g.rhs0) → From p.circuit (variable g.rhs1)
      → HoldsInPair p t row (variable g.rhs0) → HoldsInPair p t row (variable g.rhs1) → HoldsInPair p t row (variable g.lhs)
  gate_done_below q g at fits unmarked f0 f1 h0 h1 = elim (marked_or_not done (variable g.lhs)) [
    | inl d ↦ (h.evaluated q g at d).0
    | inr nd ↦ unevaluated q g at fits nd
        (λ r. elim (h.linked q g at r) [ inl m ↦ unmarked m | inr d ↦ nd d ]) f0 f1 h0 h1
  ]

  -- where no gate below a level waits, all cells below it are the values
  pub done_below : (n : ℕ) → IsConsistent p forced old
      → ((v m : ℕ) → IsMarked marks v → Level p.circuit v m → n ≤ m)
      → {v m : ℕ} → Level p.circuit v m → m < n → HoldsInPair p t row v
  done_below n fits high (by.Level.source v s) lt = h.sources v s
  done_below n fits high (by.Level.gate q g a b at la lb) lt =
      gate_done_below q g at fits
      (λ k. let le = high (variable g.lhs) (max a b + 1) k (by.Level.gate q g a b at la lb) in omega arith)
      (from_level la) (from_level lb) (done_below n fits high la (omega arith)) (done_below n fits high lb (omega arith))

  -- where no gate waits, the row is current
  pub ended_current : IsAcyclic p.circuit → IsConsistent p forced old → ((v : ℕ) → IsMarked marks v → ⊥)
      → IsCurrentRow p t row
  ended_current acyclic fits none v d =
      let (n, l) = level_of (Grounded-of_defined p.circuit acyclic v d) in
      done_below (n + 1) fits (λ u m k. absurd (none u k)) l (omega arith)

  -- and what was evaluated is what is touched
  pub ended_touched : IsAcyclic p.circuit → IsConsistent p forced old → ((v : ℕ) → IsMarked marks v → ⊥)
      → (q : ℕ) (g : Gate) → slice_get p.circuit.gates q ≡ Some g → IsTouched p t forced old g
      → IsMarked done (variable g.lhs)
  ended_touched acyclic fits none q g at touched = elim touched [
    | inl f ↦ pick (h.linked q g at (inl f))
    | inr w ↦ pick (h.linked q g at (inr (w.0, w.1, known w.0 (defined w.0 w.1) w.2, w.2)))
  ]
    where
      pick : IsMarked marks (variable g.lhs) ⊎ IsMarked done (variable g.lhs) → IsMarked done (variable g.lhs)
      pick (inl m) = absurd (none (variable g.lhs) m)
      pick (inr d) = d

      defined : (u : ℕ) → IsSide g u → (m : ℕ) × Level p.circuit u m
      defined u (inl e) = subst (λ (v : ℕ). (m : ℕ) × Level p.circuit v m) e
          (level_of (Grounded-of_defined p.circuit acyclic (variable g.rhs0) (rhs0_defined p.circuit sound q g at)))
      defined u (inr e) = subst (λ (v : ℕ). (m : ℕ) × Level p.circuit v m) e
          (level_of (Grounded-of_defined p.circuit acyclic (variable g.rhs1) (rhs1_defined p.circuit sound q g at)))

      same : (u : ℕ) (k : HoldsInPair p t row u) (d : Differs p t old u) → slice_get row u ≡ slice_get old u → ⊥
      same u k d e =
          let w : k.cell ≡ d.value = unique p.circuit (start_of p.circuit) p.rows sound k.value_is d.value_is in
          d.other (sym e ∙ k.cell_is ∙ ap Some w)

      known : (u : ℕ) → (m : ℕ) × Level p.circuit u m → Differs p t old u → IsSource p.circuit u ⊎ IsMarked done u
      known u (m, l) d = of (from_level l)
        where
          of : From p.circuit u → IsSource p.circuit u ⊎ IsMarked done u
          of (inl s) = inl s
          of (inr (r, x, there, is)) = elim (marked_or_not done u) [
            | inl k ↦ inr k
            | inr nd ↦
                absurd (same u (done_below (m + 1) fits (λ v n k. absurd (none v k)) l (omega arith)) d
                (of_others r x u there is nd))
          ]
