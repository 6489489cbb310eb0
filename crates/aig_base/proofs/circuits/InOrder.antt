-- Parts whose definitions are in order the literals 2, 4, .., 2M.
use Rattle.std.proofs.Common.{◌≡◌, ℕ, zero, suc, ◌+◌, ◌*◌, ◌<◌, ◌≤◌, List, length, map, get_or, All, Contains, Some}
use Rattle.std.proofs.Common.{slice_get, refl, sym, ◌∙◌, ap, arith}
use Rattle.std.proofs.lemmas.List.{length-map, get_or-map}
use Rattle.std.proofs.lemmas.List.Elements.{All-weaker}
use Rattle.std.proofs.lemmas.Option.{slice_get-get_or, slice_get_within, get_or_from_slice_get, same_Some}
use Rattle.aig_base.specs.declared.circuit.definition.Definition.TheVariants as definition
use Rattle.aig_parts.specs.declared.gate.Gate.{Gate}
use Rattle.aig_parts.specs.declared.latch.Latch.{Latch}
use Rattle.aig_parts.specs.declared.raw.Raw.{Raw}
use Rattle.aig_base.specs.Definition.{Defines, IsFree, IsInOrder}
use Rattle.aig_base.specs.state.LeastFaulty.{ReadsSmaller}
use Rattle.aig_parts.specs.Literal.{variable}
use Rattle.aig_base.specs.state.Ranged.{AreInRange, AreSectionsInRange, AreDefinedOnce}
use Rattle.aig_base.specs.Renumbered.{evens_from}
use Rattle.aig_base.specs.Sections.{definitions, uses, IsDefined}
use Rattle.aig_base.specs.Sound.{IsInRange, IsRedefined}
use Rattle.aig_base.proofs.lists.Evens.{apart, evens_are, length-evens_from, get_or-evens_from}
use Rattle.aig_base.proofs.checks.Faults.{in_range_joined}
use Rattle.aig_base.proofs.lists.Joined.{All-right}
use Rattle.aig_base.proofs.checks.Marking.{slice_get_unmap}

half_of : (v : ℕ) → variable (2 * v) ≡ v
half_of v = omega arith

-- what stands in a list of even literals
even_at : (ls : List ℕ) (v n k : ℕ) → ls ≡ evens_from v n → k < n → slice_get ls k ≡ Some (2 * (v + k))
even_at ls v n k is lt =
    let long : k < length ls = omega (arith, ap length is, length-evens_from v n) in
    slice_get-get_or ls k 0 long ∙ ap Some (ap (λ (xs : List ℕ). get_or xs k 0) is ∙ get_or-evens_from v n k 0 lt)

module _ (raw : Raw) (order : IsInOrder raw) where
  many : length (definitions raw) ≡ raw.max_var
  many = ap length order ∙ length-evens_from 1 raw.max_var

  -- the variable at a place
  number_at : (k v : ℕ) → slice_get (map variable (definitions raw)) k ≡ Some v → (k < raw.max_var) × (v ≡ 1 + k)
  number_at k v stands =
      let inside = slice_get_within (map variable (definitions raw)) k v stands in
      let below : k < raw.max_var = omega (arith, length-map (definitions raw) variable, many) in
      let long : k < length (definitions raw) = omega (arith, many) in
      let e : get_or (definitions raw) k 0 ≡ 2 * (1 + k) =
      ap (λ (ls : List ℕ). get_or ls k 0) order ∙ get_or-evens_from 1 raw.max_var k 0 below in (
        below,
        sym (get_or_from_slice_get (map variable (definitions raw)) k v v stands)
            ∙ get_or-map variable (definitions raw) k 0 v long ∙ ap variable e ∙ half_of (1 + k),
      )

  pub defined_to : (v : ℕ) → v ≤ raw.max_var → IsDefined raw v
  defined_to zero le = (0, omega arith, refl)
  defined_to (suc v) le =
      let below : v < length (definitions raw) = omega (arith, many) in
      let e : get_or (definitions raw) v 0 ≡ 2 * (1 + v) =
      ap (λ (ls : List ℕ). get_or ls v 0) order ∙ get_or-evens_from 1 raw.max_var v 0 (omega arith) in
      let f : 1 + v ≡ suc v = omega arith in (
        suc v,
        omega (arith, length-map (definitions raw) variable),
        get_or-map variable (definitions raw) v 0 (suc v) below ∙ ap variable e ∙ half_of (1 + v) ∙ f,
      )

  pub once_only : (v : ℕ) → IsRedefined raw v → ⊥
  once_only v (i, j, lt, at, here) = omega (arith, (number_at i v at).1, (number_at j v here).1)

  in_bounds : (v : ℕ) → Contains (map variable (definitions raw)) v → (0 < v) × (v ≤ raw.max_var)
  in_bounds v (k, lt, is) =
      let n = number_at k v (slice_get-get_or (map variable (definitions raw)) k v lt ∙ ap Some is) in
      (omega (arith, n.1), omega (arith, n.0, n.1))

  pub free_zero : (v : ℕ) → v ≡ 0 → IsFree raw v
  free_zero v is has = omega (arith, (in_bounds v has).0)

  pub free_past_all : (v : ℕ) → raw.max_var < v → IsFree raw v
  free_past_all v past has = omega (arith, (in_bounds v has).1)

  -- each variable is defined once, and all are
  pub defined_once : AreInRange raw → AreDefinedOnce raw
  defined_once range = record {
    definitions_are = evens_are (definitions raw) raw.max_var order;
    once = once_only;
    defined = All-weaker (IsInRange raw) (λ l. IsDefined raw (variable l)) (λ l r. defined_to (variable l)
        (omega arith))
        (uses raw) (All-right (IsInRange raw) (definitions raw) (uses raw) (in_range_joined raw range));
  }

  pub size_is : raw.max_var ≡ length raw.inputs + length raw.latches + length raw.gates
  size_is = (apart raw order).size

  pub input_defines : (v p : ℕ) → p < length raw.inputs → v ≡ 1 + p → Defines raw v (definition.Input p)
  input_defines v p lt is = (
    2 * (1 + p),
    even_at raw.inputs 1 (length raw.inputs) p (apart raw order).inputs_are lt,
    half_of (1 + p)
        ∙ sym is,
  )

  pub latch_defines : (v p : ℕ) → p < length raw.latches → v ≡ 1 + length raw.inputs + p
      → Defines raw v (definition.Latch p)
  latch_defines v p lt is =
      let lit : Latch → ℕ = λ x. x.lit in
      let at = even_at (map lit raw.latches) (1 + length raw.inputs) (length raw.latches) p
      (apart raw order).latches_are lt in
      let (x, here, same) = slice_get_unmap lit raw.latches p (2 * (1 + length raw.inputs + p)) at in
      (x, here, ap variable same ∙ half_of (1 + length raw.inputs + p) ∙ sym is)

  pub gate_defines : (v q : ℕ) → q < length raw.gates → v ≡ 1 + length raw.inputs + length raw.latches + q
      → Defines raw v (definition.Gate q)
  gate_defines v q lt is =
      let lhs : Gate → ℕ = λ g. g.lhs in
      let first = 1 + length raw.inputs + length raw.latches in
      let at = even_at (map lhs raw.gates) first (length raw.gates) q (apart raw order).gates_are lt in
      let (g, here, same) = slice_get_unmap lhs raw.gates q (2 * (first + q)) at in
      (g, here, ap variable same ∙ half_of (first + q) ∙ sym is)

  -- the variable of the gate at a place
  pub gate_number : (q : ℕ) (g : Gate) → slice_get raw.gates q ≡ Some g
      → variable g.lhs ≡ 1 + length raw.inputs + length raw.latches + q
  gate_number q g at =
      let (h, here, is) = gate_defines (1 + length raw.inputs + length raw.latches + q) q
      (slice_get_within raw.gates q g at) refl in
      ap (λ (x : Gate). variable x.lhs) (same_Some g h (sym at ∙ here)) ∙ is

  -- the left side at a place
  left_side : (k : ℕ) (d : Gate) → k < length raw.gates
      → (get_or raw.gates k d).lhs ≡ 2 * (1 + length raw.inputs + length raw.latches + k)
  left_side k d lt =
      let lhs : Gate → ℕ = λ x. x.lhs in
      let first = 1 + length raw.inputs + length raw.latches in
      sym (get_or-map lhs raw.gates k d 0 lt) ∙ ap (λ (ls : List ℕ). get_or ls k 0) (apart raw order).gates_are
      ∙ get_or-evens_from first (length raw.gates) k 0 lt

  -- gates whose sides go down read smaller variables alone
  pub smaller_sides : All (λ g. (g.rhs0 < g.lhs) × (g.rhs1 ≤ g.rhs0)) raw.gates → All ReadsSmaller raw.gates
  smaller_sides down = λ k d lt.
      let g : Gate = get_or raw.gates k d in
      let e = left_side k d lt in
      let s : (g.rhs0 < g.lhs) × (g.rhs1 ≤ g.rhs0) = down k d lt in
      (omega arith, omega arith)

  -- gates that read smaller variables alone are in range
  pub gates_in_range : All ReadsSmaller raw.gates
      → All (λ g. IsInRange raw g.lhs × IsInRange raw g.rhs0 × IsInRange raw g.rhs1) raw.gates
  gates_in_range smaller = λ k d lt.
      let g : Gate = get_or raw.gates k d in
      let e = left_side k d lt in
      let s : ReadsSmaller g = smaller k d lt in
      let top : g.lhs ≤ 2 * raw.max_var = omega (arith, size_is) in
      (omega arith, below g.rhs0 g.lhs s.0 top, below g.rhs1 g.lhs s.1 top)
    where
      below : (l k : ℕ) → variable l < variable k → k ≤ 2 * raw.max_var → l ≤ 2 * raw.max_var + 1
      below l k lt le = omega arith

  -- such parts are in range where the other sections are
  pub range_from_sections : All ReadsSmaller raw.gates → AreSectionsInRange raw → AreInRange raw
  range_from_sections smaller h = record {
    inputs = h.inputs;
    latches = h.latches;
    outputs = h.outputs;
    bad = h.bad;
    constraints = h.constraints;
    justice = h.justice;
    fairness = h.fairness;
    gates = gates_in_range smaller;
  }
