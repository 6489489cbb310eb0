-- One evaluation of a pass: a waiting gate of the lowest level becomes the value, and where that differs its readers
-- wait.
use Rattle.std.proofs.Common.{◌≡◌, ◌≢◌, ◌⊎◌, inl, inr, ℕ, ◌*◌, ◌<◌, ◌≤◌, Bool, true, List, length, Some, slice_get}
use Rattle.std.proofs.Common.{slice_set, sym, ap, ◌∙◌, subst, arith}
use Rattle.std.proofs.lemmas.Bool.{cases_eq}
use Rattle.aig_parts.specs.declared.ternary.Tern.{Tern}
use Rattle.aig_parts.specs.declared.gate.Gate.{Gate}
use Rattle.aig_base.specs.Grounded.{Level}
use Rattle.aig_parts.specs.Literal.{variable}
use Rattle.aig_base.specs.state.Marks.{IsMarked}
use Rattle.aig_base.specs.Sound.{IsSound}
use Rattle.aig_base.specs.Value.{start_of}
use Rattle.aig_base.specs.Readers.{IsSide}
use Rattle.aig_base.proofs.levels.OneLevel.{same_level}
use Rattle.aig_base.proofs.values.UniqueValue.{unique}
use Rattle.aig_values.specs.Cells.{gate_value}
use Rattle.aig_bench.specs.BenchState.{CircuitAndRows, HasValue}
use Rattle.aig_bench.specs.state.Current.{HoldsInPair}
use Rattle.aig_bench.proofs.cells.CellLemmas.{get_set_same, get_set_other}
use Rattle.aig_bench.specs.state.Passing.{Differs, IsTouchedSoFar, Passing}
use Rattle.aig_bench.proofs.cells.Values.{holds_new, holds_still}

module _ (p : CircuitAndRows) (t : ℕ) (forced : ℕ → Type 0) (old row : List Tern) (marks done marks' : List Bool)
    (q n : ℕ) (g : Gate) (sound : IsSound p.circuit)
    (h : Passing p t forced old row marks done)
    (at : slice_get p.circuit.gates q ≡ Some g)
    (mark : IsMarked marks (variable g.lhs))
    (level : Level p.circuit (variable g.lhs) n)
    (low : (v m : ℕ) → IsMarked done v → Level p.circuit v m → m ≤ n)
    (over : (r : ℕ) (x : Gate) → slice_get p.circuit.gates r ≡ Some x → IsSide x (variable g.lhs)
    → (m : ℕ) × Level p.circuit (variable x.lhs) m × (n < m))
    (wide : variable g.lhs < length row) (fits : variable g.lhs < length done)
    (value : HasValue p t (2 * variable g.lhs) (gate_value row g))
    (kept : (u : ℕ) → IsMarked marks u → u ≢ variable g.lhs → IsMarked marks' u)
    (readers : slice_get row (variable g.lhs) ≢ Some (gate_value row g) → (r : ℕ) (x : Gate)
    → slice_get p.circuit.gates r ≡ Some x → IsSide x (variable g.lhs) → IsMarked marks' (variable x.lhs))
    (only : (r : ℕ) (x : Gate) → slice_get p.circuit.gates r ≡ Some x → IsMarked marks' (variable x.lhs)
    → (IsMarked marks (variable x.lhs) × (variable x.lhs ≢ variable g.lhs))
    ⊎ (IsSide x (variable g.lhs) × (slice_get row (variable g.lhs) ≢ Some (gate_value row g)))) where
  abbrev v : ℕ
  v = variable g.lhs

  abbrev row' : List Tern
  row' = slice_set row v (gate_value row g)

  abbrev done' : List Bool
  done' = slice_set done v true

  as_before : slice_get row v ≡ slice_get old v
  as_before = h.others q g at (h.queued_count q g at mark).1

  carry : (u : ℕ) → u ≢ v → IsMarked marks u ⊎ IsMarked done u → IsMarked marks' u ⊎ IsMarked done' u
  carry u ne (inl m) = inl (kept u m ne)
  carry u ne (inr d) = inr (get_set_other done v u true ne ∙ d)

  pub changed : (u : ℕ) → u ≡ v → Differs p t old u → slice_get row v ≢ Some (gate_value row g)
  changed u e d is =
      let here : HasValue p t (2 * v) d.value = subst (λ (k : ℕ). HasValue p t (2 * k) d.value) e d.value_is in
      let w : gate_value row g ≡ d.value = unique p.circuit (start_of p.circuit) p.rows sound value here in
      d.other (ap (slice_get old) e ∙ sym as_before ∙ is ∙ ap Some w)

  pub differs : slice_get row v ≢ Some (gate_value row g) → Differs p t old v
  differs ne = record { value = gate_value row g; value_is = value; other = λ e. ne (as_before ∙ e) }

  not_done : (r : ℕ) (x : Gate) → slice_get p.circuit.gates r ≡ Some x → IsSide x v → IsMarked done' (variable x.lhs) → ⊥
  not_done r x there side d =
      let (m, l, lt) = over r x there side in
      elim (cases_eq (variable x.lhs) v) [
        | inl e ↦
            let same : m ≡ n = same_level sound (subst (λ (k : ℕ). Level p.circuit k m) e l) level in
            absurd (omega arith)
        | inr ne ↦
            let le : m ≤ n = low (variable x.lhs) m (sym (get_set_other done v (variable x.lhs) true ne) ∙ d) l in
            absurd (omega arith)
      ]

  pub stepped : Passing p t forced old row' marks' done'
  stepped = record {
    sources = λ s is. holds_still p t row v (gate_value row g) wide value s (h.sources s is);
    evaluated = λ r x there d. elim (cases_eq (variable x.lhs) v) [
      | inl e ↦ (
        subst (HoldsInPair p t row') (sym e) (holds_new p t row v (gate_value row g) wide value),
        (h.queued_count r x there (subst (IsMarked marks) (sym e) mark)).0,
      )
      | inr ne ↦
          let k = h.evaluated r x there (sym (get_set_other done v (variable x.lhs) true ne) ∙ d) in
          (holds_still p t row v (gate_value row g) wide value (variable x.lhs) k.0, k.1)
    ];
    others = λ r x there nd.
        let ne : variable x.lhs ≢ v = λ e. nd (subst (IsMarked done') (sym e) (get_set_same done v true fits)) in
        get_set_other row v (variable x.lhs) (gate_value row g) ne
        ∙ h.others r x there (λ d. nd (get_set_other done v (variable x.lhs) true ne ∙ d));
    linked = λ r x there reach. elim (cases_eq (variable x.lhs) v) [
      | inl e ↦ inr (subst (IsMarked done') (sym e) (get_set_same done v true fits))
      | inr ne ↦ reached r x there ne reach
    ];
    queued_count = λ r x there m. elim (only r x there m) [
      | inl k ↦
          let b = h.queued_count r x there k.0 in
          (b.0, λ d. b.1 (sym (get_set_other done v (variable x.lhs) true k.1) ∙ d))
      | inr k ↦ (inr (v, k.0, differs k.1), not_done r x there k.0)
    ];
  }
    where
      reached : (r : ℕ) (x : Gate) → slice_get p.circuit.gates r ≡ Some x → variable x.lhs ≢ v
          → IsTouchedSoFar p t forced old done' x → IsMarked marks' (variable x.lhs) ⊎ IsMarked done' (variable x.lhs)
      reached r x there ne (inl f) = carry (variable x.lhs) ne (h.linked r x there (inl f))
      reached r x there ne (inr (u, side, inl s, d)) =
          carry (variable x.lhs) ne (h.linked r x there (inr (u, side, inl s, d)))
      reached r x there ne (inr (u, side, inr k, d)) = elim (cases_eq u v) [
        | inl e ↦ inl (readers (changed u e d) r x there (subst (IsSide x) e side))
        | inr nu ↦
            carry (variable x.lhs) ne
            (h.linked r x there (inr (u, side, inr (sym (get_set_other done v u true nu) ∙ k), d)))
      ]
