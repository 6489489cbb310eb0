-- Frame literals by what a variable is, and by a plan and a frame.
use Rattle.std.proofs.Common.{◌≡◌, ℕ, zero, suc, ◌+◌, ◌-◌, ◌*◌, ◌/◌, ◌%◌, ◌<◌, ◌==◌, nat_lt, true, false, List, length}
use Rattle.std.proofs.Common.{map, get_or, slice_index, Contains, Option, Some, None, slice_get, option_map, refl, sym}
use Rattle.std.proofs.Common.{◌∙◌, ap, arith}
use Rattle.std.proofs.lemmas.Bool.Decides.{nat_tests}
use Rattle.std.proofs.lemmas.List.{length-map}
use Rattle.std.proofs.lemmas.Option.{slice_get-map, slice_get-get_or, get_or_from_slice_get}
use Rattle.aig_parts.specs.declared.gate.Gate.{Gate}
use Rattle.aig_parts.specs.declared.latch.Latch.{Latch}
use Rattle.aig_parts.specs.declared.raw.Raw.{Raw}
use Rattle.aig_parts.specs.Literal.{variable, with_sign, negation, IsNegated}
use Rattle.aig_base.specs.Order.{IsCanonicalOrder}
use Rattle.aig_base.specs.Renumbered.{renumbered_variable, role_variable}
use Rattle.aig_base.specs.RenumberingTable.{IsInTable}
use Rattle.aig_base.specs.Role as roles
use Rattle.aig_base.specs.Role.{Role, role, place_of, first_role}
use Rattle.aig_base.specs.Sections.{IsGate}
use Rattle.aig_base.specs.Sound.{IsSound}
use Rattle.aig_base.proofs.lists.Positions.{stands_at}
use Rattle.aig_base.proofs.circuits.Places.{input, latch, gate, IsDefinition-of_place}
use Rattle.aig_base.proofs.renumbered.Renumberings.{place_in}
use Rattle.aig_base.proofs.circuits.Roles.{only_place, role_input, role_latch, role_gate_at, role_constant}
use Rattle.aig_base.proofs.circuits.Roles.{place_within}
use Rattle.aig_unroll.specs.declared.unrolling.plan.Plan.{Plan}
use Rattle.aig_unroll.specs.declared.unrolling.frame_literals.Frame.{Frame}
use Rattle.aig_unroll.specs.FrameLiteral.{frame_literal, frame_gate_variable, first_literal, latch_literal}
use Rattle.aig_unroll.specs.FrameLiteral.{next_literal, role_literal}
use Rattle.aig_unroll.specs.state.FrameTable.{IsPlan, IsFrame, literal_at, number_literal}

-- a frame literal by what its variable is
pub by_role : (raw : Raw) (order : List ℕ) (k t l : ℕ)
    → frame_literal raw order k t l
    ≡ with_sign l (role_literal raw k t (latch_literal raw order k t) (role raw order (variable l)))
unfolding frame_literal
by_role raw order k t l = refl

-- the literal of an odd one
pub odd_literal : (raw : Raw) (order : List ℕ) (k t l : ℕ) → 1 < l → IsNegated l
    → frame_literal raw order k t l ≡ negation (frame_literal raw order k t (l - 1))
odd_literal raw order k t l over odd =
    let e : (l - 1) % 2 ≡ 0 = omega arith in
    let f : (l - 1) / 2 ≡ l / 2 = omega arith in
    rw (by_role raw order k t l, by_role raw order k t (l - 1), odd, e, f) refl

-- the position of an input is within the inputs
pub input_within : (raw : Raw) (order : List ℕ) (v p : ℕ) → role raw order v ≡ roles.input p → p < length raw.inputs
input_within raw order v p h =
    let k = place_within (λ u. u == v) (map variable raw.inputs) p (go _ _ _ h) in
    omega (arith, length-map raw.inputs variable)
  where
    go : (a b d : Option ℕ) → first_role a b d ≡ roles.input p → a ≡ Some p
    go (Some q) b d h = cc
    go None (Some q) d h = cc
    go None None (Some q) h = cc
    go None None None h = cc

-- the position of a latch is within the latches
pub latch_within : (raw : Raw) (order : List ℕ) (v p : ℕ) → role raw order v ≡ roles.latch p → p < length raw.latches
latch_within raw order v p h =
    let k = place_within (λ u. u == v) (map (λ (x : Latch). variable x.lit) raw.latches) p (go _ _ _ h) in
    omega (arith, length-map raw.latches (λ x. variable x.lit))
  where
    go : (a b d : Option ℕ) → first_role a b d ≡ roles.latch p → d ≡ Some p
    go (Some q) b d h = cc
    go None (Some q) d h = cc
    go None None (Some q) h = cc
    go None None None h = cc

module _ (raw : Raw) (sound : IsSound raw) (order : List ℕ) (canonical : IsCanonicalOrder raw order) where
  gates_only : (v : ℕ) → Contains order v → IsGate raw v
  gates_only v = (canonical.gates v).0

  -- the literals of definitions and of the constants
  pub of_input : (k t p l : ℕ) → slice_get raw.inputs p ≡ Some l
      → frame_literal raw order k t l ≡ 2 * (t * length raw.inputs + p + 1)
  of_input k t p l at =
      let (even, over) = IsDefinition-of_place raw sound (input p) l tt at in
      let e = role_input raw sound order gates_only p l at in
      rw (by_role raw order k t l, e, even) refl

  pub of_latch : (k t p : ℕ) (x : Latch) → slice_get raw.latches p ≡ Some x
      → frame_literal raw order k t x.lit ≡ latch_literal raw order k t p
  of_latch k t p x at =
      let (even, over) = IsDefinition-of_place raw sound (latch p) x.lit tt (x, at, refl) in
      let e = role_latch raw sound order gates_only p x at in
      rw (by_role raw order k t x.lit, e, even) refl

  pub of_first : (k p : ℕ) (x : Latch) → slice_get raw.latches p ≡ Some x
      → frame_literal raw order k 0 x.lit ≡ first_literal raw k p (Some x)
  unfolding latch_literal
  of_first k p x at = of_latch k 0 p x at ∙ ap (first_literal raw k p) at

  pub of_next : (k t p : ℕ) (x : Latch) → slice_get raw.latches p ≡ Some x
      → frame_literal raw order k (suc t) x.lit ≡ frame_literal raw order k t x.next
  unfolding frame_literal latch_literal
  of_next k t p x at = of_latch k (suc t) p x at ∙ ap (next_literal (frame_literal raw order k t)) at

  -- the gate at a place of the order
  pub of_gate : (k t q i : ℕ) (g : Gate) → slice_get raw.gates q ≡ Some g → i < length order
      → variable g.lhs ≡ get_or order i 0 → frame_literal raw order k t g.lhs ≡ 2 * frame_gate_variable raw k t i
  of_gate k t q i g at lt is =
      let (even, over) = IsDefinition-of_place raw sound (gate q) g.lhs tt (g, at, refl) in
      let here : slice_get order i ≡ Some (variable g.lhs) = slice_get-get_or order i 0 lt ∙ ap Some (sym is) in
      let e = role_gate_at raw sound order gates_only q i g at (only_place order i (variable g.lhs) here
      (λ j stands. place_in raw sound order canonical i j (variable g.lhs) here stands)) in
      rw (by_role raw order k t g.lhs, e, even) refl

  pub of_false : (k t : ℕ) → frame_literal raw order k t 0 ≡ 0
  of_false k t =
      let e = role_constant raw sound order gates_only in rw (by_role raw order k t 0, e) refl

  pub of_true : (k t : ℕ) → frame_literal raw order k t 1 ≡ 1
  of_true k t =
      let e = role_constant raw sound order gates_only in rw (by_role raw order k t 1, e) refl

  module _ (k t : ℕ) (plan : Plan) (frame : Frame) (is_plan : IsPlan raw order k plan)
      (is_frame : IsFrame raw order k t frame) where
    latch_at : (p : ℕ) → p < length raw.latches → slice_index frame.latches p ≡ latch_literal raw order k t p
    latch_at p lt =
        let (x, at) = stands_at raw.latches p lt in
        let f : Latch → ℕ = λ x. frame_literal raw order k t x.lit in
        let here : slice_get frame.latches p ≡ Some (frame_literal raw order k t x.lit) =
        ap (λ (xs : List ℕ). slice_get xs p) is_frame.latches ∙ slice_get-map f raw.latches p ∙ ap (option_map f) at in
        get_or_from_slice_get frame.latches p (frame_literal raw order k t x.lit) 0 here ∙ of_latch k t p x at

    number_same : (r : Role) → ((p : ℕ) → r ≡ roles.input p → p < length raw.inputs)
        → ((p : ℕ) → r ≡ roles.latch p → p < length raw.latches)
        → number_literal plan frame (role_variable raw r) ≡ role_literal raw k t (latch_literal raw order k t) r
    unfolding number_literal
    number_same roles.constant ins las =
        let e0 : nat_lt (plan.inputs + plan.latches) 0 ≡ false = grind (arith, nat_tests) in
        let e1 : nat_lt plan.inputs 0 ≡ false = grind (arith, nat_tests) in
        rw (e0, e1) refl
    number_same (roles.input p) ins las =
        let inside = ins p refl in
        let size = is_plan.inputs in
        let e0 : nat_lt (plan.inputs + plan.latches) (p + 1) ≡ false = grind (arith, nat_tests) in
        let e1 : nat_lt plan.inputs (p + 1) ≡ false = grind (arith, nat_tests) in
        let e2 : nat_lt 0 (p + 1) ≡ true = grind (arith, nat_tests) in
        rw (e0, e1, e2, is_frame.number, is_plan.inputs) (omega arith)
    number_same (roles.latch p) ins las =
        let inside = las p refl in
        let size = is_plan.inputs in
        let count = is_plan.latches in
        let e0 : nat_lt (plan.inputs + plan.latches) (length raw.inputs + p + 1) ≡ false = grind (arith, nat_tests) in
        let e1 : nat_lt plan.inputs (length raw.inputs + p + 1) ≡ true = grind (arith, nat_tests) in
        let e2 : length raw.inputs + p + 1 - plan.inputs - 1 ≡ p = omega arith in
        rw (e0, e1, e2) (latch_at p inside)
    number_same (roles.gate q) ins las =
        let size = is_plan.inputs in
        let count = is_plan.latches in
        let e0 : nat_lt (plan.inputs + plan.latches) (length raw.inputs + length raw.latches + q + 1) ≡ true =
        grind (arith, nat_tests) in
        let e1 : length raw.inputs + length raw.latches + q + 1 - (plan.inputs + plan.latches) - 1 ≡ q = omega arith in
        rw (e0, e1, is_frame.number, is_plan.sources, is_plan.size) refl

    -- the plan and the frame give the frame literals
    pub literal_same : (l : ℕ) → IsInTable plan.numbers l → literal_at plan frame l ≡ frame_literal raw order k t l
    unfolding literal_at renumbered_variable
    literal_same l lt =
        ap (λ n. with_sign l (number_literal plan frame n)) (is_plan.numbers.each (variable l) lt)
        ∙ ap (with_sign l) (number_same (role raw order (variable l)) (input_within raw order (variable l))
        (latch_within raw order (variable l)))
        ∙ sym (by_role raw order k t l)
