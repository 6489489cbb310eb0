-- A sweep over one frame: a gate of the lowest waiting level is evaluated; a level without waiting gates is passed.
use Rattle.std.proofs.Common.{◌≡◌, ◌≢◌, ◌⊎◌, ◌↔◌, inl, inr, ℕ, ◌+◌, ◌*◌, ◌<◌, ◌≤◌, max, Bool, true, List, ◌∷◌, length}
use Rattle.std.proofs.Common.{get_or, Some, slice_get, slice_set, Contains, refl, sym, ap, ◌∙◌, subst, arith}
use Rattle.std.proofs.lemmas.Bool.{cases_eq}
use Rattle.std.proofs.lemmas.List.{length-set}
use Rattle.std.proofs.lemmas.Option.{slice_get-get_or, get_or_from_slice_get}
use Rattle.aig_parts.specs.declared.ternary.Tern.{Tern}
use Rattle.aig_parts.specs.declared.ternary.Tern.TheVariants.{X}
use Rattle.aig_parts.specs.declared.gate.Gate.{Gate}
use Rattle.aig_base.specs.Circuit.{IsCircuit}
use Rattle.aig_base.specs.Grounded as by
use Rattle.aig_base.specs.Grounded.{Level}
use Rattle.aig_base.specs.Levels.{AreLevels}
use Rattle.aig_parts.specs.Literal.{variable}
use Rattle.aig_base.specs.state.Marks.{IsMarked}
use Rattle.aig_base.specs.Sections.{IsDefined, IsGate}
use Rattle.aig_base.proofs.circuits.Circuits.{gate_defined, gate_in_range, gate_is, rhs0_defined, rhs1_defined}
use Rattle.aig_base.proofs.circuits.Defined.{Grounded-of_defined}
use Rattle.aig_base.proofs.circuits.Gates.{same_gate}
use Rattle.aig_base.proofs.levels.OneLevel.{level_of, same_level}
use Rattle.aig_base.proofs.lists.Positions.{Contains-cons}
use Rattle.aig_values.specs.Cells.{gate_value}
use Rattle.aig_bench.specs.BenchState.{CircuitAndRows, HasValue}
use Rattle.aig_bench.specs.state.Current.{HoldsInPair}
use Rattle.aig_bench.specs.state.Passing.{Differs, Passing, IsConsistent}
use Rattle.aig_base.specs.Readers.{ReadsVariable, IsSide}
use Rattle.aig_bench.specs.state.Sweep.{Sweeping, Sweeps}
use Rattle.aig_bench.specs.Touched.{IsOnce}
use Rattle.aig_bench.proofs.cells.CellLemmas.{get_set_same, get_set_other}
use Rattle.aig_bench.proofs.queues.Chained.{head_in, in_tail}
use Rattle.aig_bench.proofs.passes.PassLemmas.{done_below, same_or_other}
use Rattle.aig_bench.proofs.passes.PassingStep.{stepped, changed, differs}
use Rattle.aig_bench.proofs.cells.Values.{gate_has_value}

module _ (p : CircuitAndRows) (t : ℕ) (c : IsCircuit p.circuit) where
  level_here : (u : ℕ) → IsDefined p.circuit u → (m : ℕ) × Level p.circuit u m
  level_here u d = level_of (Grounded-of_defined p.circuit c.acyclic u d)

  -- a right side has a lower level than the gate
  pub lower : (r : ℕ) (g : Gate) (u m n : ℕ) → slice_get p.circuit.gates r ≡ Some g → IsSide g u
      → Level p.circuit u m → Level p.circuit (variable g.lhs) n → m < n
  lower r g u m n at side lu lv =
      let (a, la) = level_here (variable g.rhs0) (rhs0_defined p.circuit c.sound r g at) in
      let (b, lb) = level_here (variable g.rhs1) (rhs1_defined p.circuit c.sound r g at) in
      let top : n ≡ max a b + 1 = same_level c.sound lv (by.Level.gate r g a b at la lb) in
      elim side [
        | inl e ↦
            let same : m ≡ a = same_level c.sound lu (subst (λ (x : ℕ). Level p.circuit x a) e la) in omega arith
        | inr e ↦
            let same : m ≡ b = same_level c.sound lu (subst (λ (x : ℕ). Level p.circuit x b) e lb) in omega arith
      ]

  side_level : (q : ℕ) (g : Gate) → slice_get p.circuit.gates q ≡ Some g → (u : ℕ) → IsSide g u
      → (m : ℕ) × Level p.circuit u m
  side_level q g at u (inl e) = level_here u (subst (IsDefined p.circuit) e (rhs0_defined p.circuit c.sound q g at))
  side_level q g at u (inr e) = level_here u (subst (IsDefined p.circuit) e (rhs1_defined p.circuit c.sound q g at))

  module _ (forced : ℕ → Type 0) (old row : List Tern) (marks marks' : List Bool) (n q : ℕ) (g : Gate) (xs ys : List ℕ)
      (fits : IsConsistent p forced old) (s : Sweeping p t forced old n row marks xs ys)
      (at : slice_get p.circuit.gates q ≡ Some g) (mark : IsMarked marks (variable g.lhs))
      (level : Level p.circuit (variable g.lhs) n) (wide : length row ≡ p.circuit.max_var + 1)
      (moved : (u : ℕ) → IsMarked marks' u ↔ ((IsMarked marks u × (u ≢ variable g.lhs))
      ⊎ (ReadsVariable p.circuit u (variable g.lhs) × (slice_get row (variable g.lhs) ≢ Some (gate_value row g))))) where
    abbrev v : ℕ
    v = variable g.lhs

    abbrev row' : List Tern
    row' = slice_set row v (gate_value row g)

    abbrev done' : List Bool
    done' = slice_set s.done v true

    side_holds : (u : ℕ) → IsSide g u → HoldsInPair p t row u
    side_holds u side =
        let (m, l) = side_level q g at u side in
        done_below p t forced old row marks s.done c.sound s.passing n fits s.high l (lower q g u m n at side l level)

    value : HasValue p t (2 * v) (gate_value row g)
    value = gate_has_value p t row q g c.sound at (side_holds (variable g.rhs0) (inl refl))
        (side_holds (variable g.rhs1) (inr refl))

    over : (r : ℕ) (x : Gate) → slice_get p.circuit.gates r ≡ Some x → IsSide x v
        → (m : ℕ) × Level p.circuit (variable x.lhs) m × (n < m)
    over r x there side =
        let (m, l) = level_here (variable x.lhs) (gate_defined p.circuit r x there) in
        (m, l, lower r x v n m there side level l)

    reads_side : (r : ℕ) (x : Gate) → slice_get p.circuit.gates r ≡ Some x → ReadsVariable p.circuit (variable x.lhs) v → IsSide x v
    reads_side r x there (k, y, stands, e, side) =
        subst (λ (z : Gate). IsSide z v) (same_gate p.circuit c.sound k r y x stands there e) side

    within : v ≤ p.circuit.max_var
    within = gate_in_range p.circuit c.sound q g at

    inside : v < length s.done
    inside = omega (arith, within, s.size)

    abbrev Fresh : Type 0
    Fresh = slice_get row v ≢ Some (gate_value row g)

    kept : (u : ℕ) → IsMarked marks u → u ≢ v → IsMarked marks' u
    kept u m ne = (moved u).1 (inl (m, ne))

    readers : Fresh → (r : ℕ) (x : Gate) → slice_get p.circuit.gates r ≡ Some x → IsSide x v → IsMarked marks' (variable x.lhs)
    readers ne r x there side = (moved (variable x.lhs)).1 (inr ((r, x, there, refl, side), ne))

    only : (r : ℕ) (x : Gate) → slice_get p.circuit.gates r ≡ Some x → IsMarked marks' (variable x.lhs)
        → (IsMarked marks (variable x.lhs) × (variable x.lhs ≢ v)) ⊎ (IsSide x v × Fresh)
    only r x there m = elim ((moved (variable x.lhs)).0 m) [
      | inl k ↦ inl k
      | inr k ↦ inr (reads_side r x there k.0, k.1)
    ]

    passing' : Passing p t forced old row' marks' done'
    passing' = stepped p t forced old row marks s.done marks' q n g c.sound s.passing at mark level s.low over
        (omega (arith, within, wide)) inside value kept readers only

    now_done : IsMarked done' v
    now_done = get_set_same s.done v true inside

    done_cases : (u : ℕ) → IsMarked done' u ↔ ((u ≡ v) ⊎ IsMarked s.done u)
    done_cases u = (
      λ d. elim (cases_eq u v) [ inl e ↦ inl e | inr ne ↦ inr (sym (get_set_other s.done v u true ne) ∙ d) ],
      λ k. elim k [
        | inl e ↦ subst (IsMarked done') (sym e) now_done
        | inr d ↦ elim (cases_eq u v) [
          | inl e ↦ subst (IsMarked done') (sym e) now_done
          | inr ne ↦ get_set_other s.done v u true ne ∙ d
        ]
      ],
    )

    not_done : IsMarked s.done v → ⊥
    not_done = (s.passing.queued_count q g at mark).1

    low' : (u m : ℕ) → IsMarked done' u → Level p.circuit u m → m ≤ n
    low' u m d l = elim ((done_cases u).0 d) [
      | inl e ↦
          let same : m ≡ n = same_level c.sound (subst (λ (k : ℕ). Level p.circuit k m) e l) level in omega arith
      | inr k ↦ s.low u m k l
    ]

    high' : (u m : ℕ) → IsMarked marks' u → Level p.circuit u m → n ≤ m
    high' u m k l = elim ((moved u).0 k) [
      | inl o ↦ s.high u m o.0 l
      | inr r ↦ reader u m l r.0
    ]
      where
        reader : (u m : ℕ) → Level p.circuit u m → ReadsVariable p.circuit u v → n ≤ m
        reader u m l (r, x, there, e, side) =
            let lt : n < m = lower r x v n m there side level (subst (λ (k : ℕ). Level p.circuit k m) (sym e) l) in
            omega arith

    each' : (u : ℕ) → Contains (v ∷ xs) u ↔ IsMarked done' u
    each' u = (
      λ i. elim (Contains-cons v xs u i) [
        | inl e ↦ (done_cases u).1 (inl e)
        | inr j ↦ (done_cases u).1 (inr ((s.each u).0 j))
      ],
      λ d. elim ((done_cases u).0 d) [
        | inl e ↦ subst (Contains (v ∷ xs)) (sym e) (head_in v xs)
        | inr k ↦ in_tail v xs u ((s.each u).1 k)
      ],
    )

    swept : (zs : List ℕ) → IsOnce zs → ((u : ℕ) → Contains zs u ↔ (IsMarked done' u × Differs p t old u))
        → Sweeping p t forced old n row' marks' (v ∷ xs) zs
    swept zs once each = record {
      done = done';
      size = length-set s.done v true ∙ s.size;
      passing = passing';
      low = low';
      high = high';
      gates = λ u d. elim ((done_cases u).0 d) [
        | inl e ↦ subst (IsGate p.circuit) (sym e) (gate_is p.circuit q g at)
        | inr k ↦ s.gates u k
      ];
      once = (λ i. not_done ((s.each v).0 i), s.once);
      each = each';
      changed_once = once;
      changed_each = each;
    }

    has_changed : Fresh → Differs p t old v
    has_changed = differs p t forced old row marks s.done marks' q n g c.sound s.passing at mark level s.low over
        (omega (arith, within, wide)) inside value kept readers only

    has_fresh : Differs p t old v → Fresh
    has_fresh = changed p t forced old row marks s.done marks' q n g c.sound s.passing at mark level s.low over
        (omega (arith, within, wide)) inside value kept readers only v refl

    -- the gate's cell changed
    pub swept_changed : Fresh → Sweeping p t forced old n row' marks' (v ∷ xs) (v ∷ ys)
    swept_changed fresh = swept (v ∷ ys) (λ i. not_done ((s.changed_each v).0 i).0, s.changed_once) (λ u. (
      λ i. elim (Contains-cons v ys u i) [
        | inl e ↦ ((done_cases u).1 (inl e), subst (Differs p t old) (sym e) (has_changed fresh))
        | inr j ↦ let k = (s.changed_each u).0 j in ((done_cases u).1 (inr k.0), k.1)
      ],
      λ d. elim ((done_cases u).0 d.0) [
        | inl e ↦ subst (Contains (v ∷ ys)) (sym e) (head_in v ys)
        | inr k ↦ in_tail v ys u ((s.changed_each u).1 (k, d.1))
      ],
    ))

    -- the gate's cell did not change
    pub swept_same : slice_get row v ≡ Some (gate_value row g) → Sweeping p t forced old n row' marks' (v ∷ xs) ys
    swept_same is = swept ys s.changed_once (λ u. (
      λ i. let k = (s.changed_each u).0 i in ((done_cases u).1 (inr k.0), k.1),
      λ d. elim ((done_cases u).0 d.0) [
        | inl e ↦ absurd (has_fresh (subst (Differs p t old) e d.1) is)
        | inr k ↦ (s.changed_each u).1 (k, d.1)
      ],
    ))

-- what the answer of an evaluation says of the cell
module _ (row row' : List Tern) (v : ℕ) (w : Tern) (is : row' ≡ slice_set row v w) (lt : v < length row) where
  written_now : get_or row' v X ≡ w
  written_now = get_or_from_slice_get row' v w X (ap (λ (r : List Tern). slice_get r v) is ∙ get_set_same row v w lt)

  pub cell_changed : get_or row' v X ≢ get_or row v X → slice_get row v ≢ Some w
  cell_changed ne e = ne (written_now ∙ sym (get_or_from_slice_get row v w X e))

  pub cell_same : (get_or row' v X ≢ get_or row v X → ⊥) → slice_get row v ≡ Some w
  cell_same f = elim (same_or_other (slice_get row v) w) [
    | inl e ↦ e
    | inr ne ↦ absurd (f (λ e. ne (slice_get-get_or row v X lt ∙ ap Some (sym e ∙ written_now))))
  ]

-- sweeps one after the other
module _ (p : CircuitAndRows) (t : ℕ) where
  pub sweeps_none : (n : ℕ) (row : List Tern) (marks : List Bool) → Sweeps p t n n row marks row marks 0 0
  sweeps_none n row marks = record {
    sweep = λ forced old xs ys fits s. record {
      evaluated_now = xs;
      changed_now = ys;
      sweeping = s;
      evaluated_more = omega arith;
      changed_more = omega arith;
    };
  }

  pub sweeps_then : (n m k : ℕ) (row mid new : List Tern) (marks marks' marks'' : List Bool) (e f a b : ℕ)
      → Sweeps p t n m row marks mid marks' e f → Sweeps p t m k mid marks' new marks'' a b
      → Sweeps p t n k row marks new marks'' (e + a) (f + b)
  sweeps_then n m k row mid new marks marks' marks'' e f a b h g = record {
    sweep = λ forced old xs ys fits s.
        let x = h.sweep forced old xs ys fits s in
        let y = g.sweep forced old x.evaluated_now x.changed_now fits x.sweeping in
        let l0 = x.evaluated_more in
        let l1 = y.evaluated_more in
        let l2 = x.changed_more in
        let l3 = y.changed_more in
        record {
          evaluated_now = y.evaluated_now;
          changed_now = y.changed_now;
          sweeping = y.sweeping;
          evaluated_more = omega arith;
          changed_more = omega arith;
        };
  }

  -- none of the levels in between waits
  pub sweeps_far : (levels : List ℕ) (n m k : ℕ) (row mid : List Tern) (marks marks' : List Bool) (e f : ℕ)
      → AreLevels p.circuit levels → Sweeps p t n m row marks mid marks' e f → m ≤ k
      → ((u l : ℕ) → IsMarked marks' u → slice_get levels u ≡ Some l → m ≤ l → l < k → ⊥)
      → Sweeps p t n k row marks mid marks' e f
  sweeps_far levels n m k row mid marks marks' e f are h le clear = record {
    sweep = λ forced old xs ys fits s.
        let x = h.sweep forced old xs ys fits s in
        let y = x.sweeping in
        record {
          evaluated_now = x.evaluated_now;
          changed_now = x.changed_now;
          sweeping = record {
            done = y.done;
            size = y.size;
            passing = y.passing;
            low = λ v i d l. let b = y.low v i d l in omega arith;
            high = λ v i d l. elim (below_or i k) [
              | inl lt ↦ absurd (clear v i d (are.each v i l) (y.high v i d l) lt)
              | inr o ↦ o
            ];
            gates = y.gates;
            once = y.once;
            each = y.each;
            changed_once = y.changed_once;
            changed_each = y.changed_each;
          };
          evaluated_more = x.evaluated_more;
          changed_more = x.changed_more;
        };
  }
    where
      below_or : (i k : ℕ) → (i < k) ⊎ (k ≤ i)
      below_or i k = grind arith
