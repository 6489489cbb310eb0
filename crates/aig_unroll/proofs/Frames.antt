-- The frames of an unrolled circuit, one by one.
use Rattle.std.proofs.Common.{◌≡◌, ℕ, zero, suc, ◌+◌, ◌-◌, ◌*◌, ◌<◌, ◌≤◌, Bool, true, false, if◌then◌else◌, List, []}
use Rattle.std.proofs.Common.{◌++◌, length, map, get_or, slice_index, All, Some, slice_get, option_map, refl, sym, ◌∙◌}
use Rattle.std.proofs.Common.{ap, ap₂, subst, arith, add-one}
use Rattle.std.specs.List.{range_with_len}
use Rattle.std.proofs.Math.Nat.{mul-le-mul_right}
use Rattle.std.proofs.lemmas.List.{length-map, ext_get_or, get_or_default}
use Rattle.std.proofs.lemmas.List.Elements.{All-weaker, All-nil}
use Rattle.std.proofs.lemmas.List.FromFn.{length-map-range_with_len, length-range_with_len, get_or-range_with_len}
use Rattle.std.proofs.lemmas.List.FromFn.{get_or-map-range_with_len}
use Rattle.std.proofs.lemmas.Option.{slice_get-map, get_or_from_slice_get}
use Rattle.std.proofs.lemmas.Simd.{map-map}
use Rattle.aig_parts.specs.declared.gate.Gate.{Gate}
use Rattle.aig_parts.specs.declared.latch.Latch.{Latch}
use Rattle.aig_parts.specs.declared.raw.Raw.{Raw}
use Rattle.aig_base.specs.Circuit.{IsCircuit}
use Rattle.aig_base.specs.Order.{IsCanonicalOrder}
use Rattle.aig_base.specs.Renumbered.{ordered_gates}
use Rattle.aig_base.specs.RenumberingTable.{IsInTable, IsLatchListed, IsGateListed, HasAllEntries}
use Rattle.aig_base.proofs.lists.Positions.{stands_at}
use Rattle.aig_base.proofs.lists.Counting.{length-order, sections_fit}
use Rattle.aig_base.proofs.lists.Gets.{All-at, All-by_get}
use Rattle.aig_base.proofs.renumbered.RenumberedParts.{map_same, all_listed, variable_bound}
use Rattle.aig_base.proofs.renumbered.RenumberedReady.{ordered_gate}
use Rattle.aig_unroll.specs.declared.unrolling.frame_literals.Frame.{Frame}
use Rattle.aig_unroll.specs.declared.unrolling.plan.Plan.{Plan}
use Rattle.aig_unroll.specs.declared.unrolling.sections.Sections.{Sections}
use Rattle.aig_unroll.specs.FrameLiteral.{frame_literal, frame_gate_variable, first_literal, has_guards, chain_count}
use Rattle.aig_unroll.specs.FrameLiteral.{guard_count}
use Rattle.aig_unroll.specs.state.FrameTable as table
use Rattle.aig_unroll.specs.state.FrameTable.{IsPlan, IsFrame, IsWithin, IsNextFrame, AddsFrame, AreSections}
use Rattle.aig_unroll.specs.state.FrameTable.{IsGateNumbered, literal_at, numbered_gate, plan_gates, bad_at, first_at}
use Rattle.aig_unroll.specs.Unrollable.{FitsLimits}
use Rattle.aig_unroll.specs.Unrolled as parts
use Rattle.aig_unroll.specs.Unrolled.{frames, frame_literals, frame_bad, frame_gate, frame_gates, kept_constraints}
use Rattle.aig_unroll.proofs.FrameLiterals.{literal_same, of_first, of_next}
use Rattle.aig_unroll.proofs.Guarding.{guarded_by_chain, guarded_by_guard}
use Rattle.aig_unroll.proofs.NumberedGates.{numbered_same, are_numbered}

-- functions that agree on the numbers below n
pub range_same : {A : Type 0} (f g : ℕ → A) (n : ℕ) → ((i : ℕ) → i < n → f i ≡ g i)
    → map f (range_with_len 0 n) ≡ map g (range_with_len 0 n)
range_same f g n same =
    map_same f g (range_with_len 0 n) (λ i d lt.
    let below : i < n = omega (arith, length-range_with_len 0 n) in
    let e : get_or (range_with_len 0 n) i d ≡ i = get_or-range_with_len 0 n i d below ∙ omega arith in
    ap f e ∙ same i below ∙ ap g (sym e))

module _ (raw : Raw) (circuit : IsCircuit raw) (order : List ℕ) (canonical : IsCanonicalOrder raw order) (k : ℕ)
    (plan : Plan) (is_plan : IsPlan raw order k plan) where
  -- the table has each literal
  pub listed : HasAllEntries raw plan.numbers
  listed = all_listed raw circuit.formed circuit.sound order plan.numbers canonical is_plan.numbers

  -- each of its numbers is one of the renumbered circuit
  numbers_within : All (λ n. n ≤ plan.inputs + plan.latches + plan.gates) plan.numbers
  numbers_within v d below =
      omega (
        arith,
        get_or_default plan.numbers v d 0 below,
        is_plan.numbers.each v below,
        variable_bound raw order v,
        length-order raw circuit.sound order canonical,
        is_plan.inputs,
        is_plan.latches,
        is_plan.gates,
      )

  ordered_listed : All (IsGateListed plan.numbers) (ordered_gates raw order)
  ordered_listed = All-by_get (IsGateListed plan.numbers) (ordered_gates raw order) (λ i g here.
      let (q, lt, at, is) = ordered_gate raw circuit.sound order canonical i g here in
      All-at (IsGateListed plan.numbers) raw.gates q g listed.gates at)

  pub ordered_numbered : All (IsGateNumbered plan) (map (numbered_gate plan.numbers) (ordered_gates raw order))
  ordered_numbered = are_numbered plan numbers_within (ordered_gates raw order) ordered_listed

  first_same : (offset p : ℕ) (x : Latch) → offset ≡ k * length raw.inputs → slice_get raw.latches p ≡ Some x
      → first_at raw.latches offset p ≡ first_literal raw k p (Some x)
  first_same offset p x e here =
      ap (table.first_literal_of raw.latches offset p) here ∙ ap (λ b. table.first_literal_of raw.latches b p (Some x)) e

  -- the first frame
  pub first_frame : (offset : ℕ) (latches : List ℕ) → offset ≡ k * plan.inputs
      → latches ≡ map (first_at raw.latches offset) (range_with_len 0 (length raw.latches))
      → IsFrame raw order k 0 (record { number = 0; latches = latches })
  first_frame offset latches at is = record {
    number = refl;
    latches = is ∙ ext_get_or 0 (map (first_at raw.latches offset) (range_with_len 0 (length raw.latches)))
        (map (λ (x : Latch). frame_literal raw order k 0 x.lit) raw.latches)
        (length-map-range_with_len (first_at raw.latches offset) 0 (length raw.latches)
        ∙ sym (length-map raw.latches (λ (x : Latch). frame_literal raw order k 0 x.lit)))
        (λ p lt.
        let below : p < length raw.latches =
        omega (arith, length-map-range_with_len (first_at raw.latches offset) 0 (length raw.latches)) in
        let (x, here) = stands_at raw.latches p below in
        let e : offset ≡ k * length raw.inputs = at ∙ ap (λ n. k * n) is_plan.inputs in
        let f : slice_get (map (λ (x : Latch). frame_literal raw order k 0 x.lit) raw.latches) p
        ≡ Some (frame_literal raw order k 0 x.lit) =
        slice_get-map (λ (x : Latch). frame_literal raw order k 0 x.lit) raw.latches p
        ∙ ap (option_map (λ (x : Latch). frame_literal raw order k 0 x.lit)) here in
        get_or-map-range_with_len (first_at raw.latches offset) 0 (length raw.latches) p p 0 below (omega arith)
        ∙ first_same offset p x e here
        ∙ sym (of_first raw circuit.sound order canonical k p x here)
        ∙ sym (get_or_from_slice_get (map (λ (x : Latch). frame_literal raw order k 0 x.lit) raw.latches) p
        (frame_literal raw order k 0 x.lit) 0 f));
  }

  module _ (t : ℕ) (frame : Frame) (is_frame : IsFrame raw order k t frame) where
    -- the frame is within the limits
    pub within : FitsLimits raw k → t < k → IsWithin plan frame
    within fits lt =
        let whole = sections_fit raw circuit.sound in
        let most = circuit.formed.counts.max_var in
        let up = mul-le-mul_right {m = suc t} {n = k} (length raw.inputs) lt in
        let over = mul-le-mul_right {m = suc t} {n = k} plan.size lt in
        let e : frame.number * plan.inputs ≡ t * length raw.inputs =
        ap₂ (λ (a b : ℕ). a * b) is_frame.number is_plan.inputs in
        let f : frame.number * plan.size ≡ t * plan.size = ap (λ n. n * plan.size) is_frame.number in
        let g = ap (λ n. k * n) is_plan.size in
        record {
          numbers = numbers_within;
          definitions = omega (arith, is_plan.inputs, is_plan.latches, is_plan.gates);
          inputs = omega (arith, is_plan.inputs, is_plan.sources);
          gates = omega (arith, is_plan.gates, is_plan.chain, is_plan.size);
          variables = omega (arith, is_plan.sources, fits.max_var);
          latches = ap length is_frame.latches
              ∙ length-map raw.latches (λ (x : Latch). frame_literal raw order k t x.lit) ∙ sym is_plan.latches;
        }

    same : (l : ℕ) → IsInTable plan.numbers l → literal_at plan frame l ≡ frame_literal raw order k t l
    same = literal_same raw circuit.sound order canonical k t plan frame is_plan is_frame

    literals_same : (ls : List ℕ) → All (IsInTable plan.numbers) ls
        → map (literal_at plan frame) ls ≡ frame_literals raw order k ls t
    literals_same ls h = map_same (literal_at plan frame) (frame_literal raw order k t) ls
        (All-weaker (IsInTable plan.numbers) (λ l. literal_at plan frame l ≡ frame_literal raw order k t l) same ls h)

    -- the frame after it
    pub next_frame : (next : Frame) → IsNextFrame raw plan frame next → IsFrame raw order k (suc t) next
    next_frame next is = record {
      number = is.number ∙ ap (λ n. n + 1) is_frame.number ∙ add-one t;
      latches = is.latches ∙ map_same (λ (x : Latch). literal_at plan frame x.next)
          (λ (x : Latch). frame_literal raw order k (suc t) x.lit) raw.latches
          (All-by_get (λ (x : Latch). literal_at plan frame x.next ≡ frame_literal raw order k (suc t) x.lit) raw.latches
          (λ p x at.
          let (own, next, reset) = All-at (IsLatchListed plan.numbers) raw.latches p x listed.latches at in
          same x.next next ∙ sym (of_next raw circuit.sound order canonical k t p x at)));
    }

    variable_same : (n : ℕ) → table.variable_at plan frame.number n ≡ frame_gate_variable raw k t n
    variable_same n = rw (is_frame.number, is_plan.sources, is_plan.size) refl

    gate_same : (g : Gate) → IsGateListed plan.numbers g
        → table.plan_gate plan frame (numbered_gate plan.numbers g) ≡ frame_gate raw order k t g
    gate_same g (a, b, d) =
        let e0 = numbered_same plan frame g.lhs ∙ same g.lhs a in
        let e1 = numbered_same plan frame g.rhs0 ∙ same g.rhs0 b in
        let e2 = numbered_same plan frame g.rhs1 ∙ same g.rhs1 d in
        rw (e0, e1, e2) refl

    before_same : (n : ℕ) → 0 < chain_count raw → table.plan_chain_before plan n ≡ parts.chain_before raw k n
    before_same zero some = refl
    before_same (suc n) some =
        rw (is_plan.sources, is_plan.size, is_plan.gates, is_plan.chain) (omega arith)

    link_same : (c : ℕ) → c < chain_count raw → table.plan_link_before plan frame c ≡ parts.link_before raw k t c
    link_same zero lt = ap (table.plan_chain_before plan) is_frame.number ∙ before_same t lt
    link_same (suc c) lt = ap (λ n. 2 * table.variable_at plan frame.number (n + c)) is_plan.gates
        ∙ ap (λ n. 2 * n) (variable_same (length raw.gates + c))

    chain_same : (c : ℕ) → c < chain_count raw
        → table.plan_chain_gate plan frame raw.constraints c ≡ parts.chain_gate raw order k t c
    chain_same c lt =
        let on = guarded_by_chain raw c lt in
        let below : c < length raw.constraints = omega (arith, on.chain) in
        let e0 = ap (λ n. 2 * table.variable_at plan frame.number (n + c)) is_plan.gates
        ∙ ap (λ n. 2 * n) (variable_same (length raw.gates + c)) in
        let e1 = same (slice_index raw.constraints c) (listed.constraints c 0 below) in
        let e2 = link_same c lt in
        rw (e0, e1, e2) refl

    guard_literal_same : (p : ℕ) → table.plan_guard_literal plan frame p ≡ parts.guard_literal raw k t p
    guard_literal_same p =
        ap₂ (λ (n m : ℕ). 2 * table.variable_at plan frame.number (n + m + p)) is_plan.gates is_plan.chain
        ∙ ap (λ n. 2 * n) (variable_same (length raw.gates + chain_count raw + p))

    guard_same : (p : ℕ) → p < guard_count raw
        → table.plan_guard_gate plan frame raw.bad p ≡ parts.guard_gate raw order k t p
    guard_same p lt =
        let on = guarded_by_guard raw p lt in
        let below : p < length raw.bad = omega (arith, on.guards) in
        let some : 0 < chain_count raw = omega (arith, on.chain, on.constraints) in
        let e : length raw.gates + chain_count raw - 1 ≡ length raw.gates + (chain_count raw - 1) = omega arith in
        let e0 = guard_literal_same p in
        let e1 = same (slice_index raw.bad p) (listed.bad p 0 below) in
        let e2 = ap₂ (λ (n m : ℕ). 2 * table.variable_at plan frame.number (n + m - 1)) is_plan.gates is_plan.chain
        ∙ ap (λ n. 2 * table.variable_at plan frame.number n) e
        ∙ ap (λ n. 2 * n) (variable_same (length raw.gates + (chain_count raw - 1))) in
        rw (e0, e1, e2) refl

    gates_same : plan_gates raw (map (numbered_gate plan.numbers) (ordered_gates raw order)) plan frame
        ≡ frame_gates raw order k t
    gates_same =
        let at : Gate → Gate = λ g. table.plan_gate plan frame (numbered_gate plan.numbers g) in
        let a : map (table.plan_gate plan frame) (map (numbered_gate plan.numbers) (ordered_gates raw order))
        ≡ map (frame_gate raw order k t) (ordered_gates raw order) =
        map-map (table.plan_gate plan frame) (numbered_gate plan.numbers) (ordered_gates raw order)
        ∙ map_same at (frame_gate raw order k t) (ordered_gates raw order)
        (All-weaker (IsGateListed plan.numbers) (λ g. at g ≡ frame_gate raw order k t g)
        gate_same (ordered_gates raw order) ordered_listed) in
        let b = range_same (table.plan_chain_gate plan frame raw.constraints) (parts.chain_gate raw order k t)
        (chain_count raw) chain_same in
        let d = range_same (table.plan_guard_gate plan frame raw.bad) (parts.guard_gate raw order k t) (guard_count raw)
        guard_same in
        ap₂ (λ (xs ys : List Gate). xs ++ ys) (ap₂ (λ (xs ys : List Gate). xs ++ ys) a b) d

    bad_same : bad_at raw plan frame ≡ frame_bad raw order k t
    bad_same =
        ap₂ (λ (xs ys : List ℕ). if has_guards raw then xs else ys)
        (range_same (table.plan_guard_literal plan frame) (parts.guard_literal raw k t) (guard_count raw)
        (λ p lt. guard_literal_same p))
        (literals_same raw.bad listed.bad)

    kept_listed : All (IsInTable plan.numbers) (kept_constraints raw)
    kept_listed = go (has_guards raw)
      where
        go : (b : Bool) → All (IsInTable plan.numbers) (if b then [] else raw.constraints)
        go true = All-nil (IsInTable plan.numbers)
        go false = listed.constraints

    -- one more frame
    pub sections_more : (old new : Sections) → AreSections raw order k t old
        → AddsFrame raw (map (numbered_gate plan.numbers) (ordered_gates raw order)) plan frame old new
        → AreSections raw order k (suc t) new
    sections_more old new so adds = record {
      outputs = adds.outputs ∙ ap₂ (λ (xs ys : List ℕ). xs ++ ys) so.outputs (literals_same raw.outputs listed.outputs);
      bad = adds.bad ∙ ap₂ (λ (xs ys : List ℕ). xs ++ ys) so.bad bad_same;
      constraints = adds.constraints
          ∙ ap₂ (λ (xs ys : List ℕ). xs ++ ys) so.constraints (literals_same (kept_constraints raw) kept_listed);
      gates = adds.gates ∙ ap₂ (λ (xs ys : List Gate). xs ++ ys) so.gates gates_same;
    }

    -- a pass of the loop over the frames
    pub one_more : (gates : List Gate) (old new : Sections) (next : Frame)
        → gates ≡ map (numbered_gate plan.numbers) (ordered_gates raw order)
        → AreSections raw order k t old → AddsFrame raw gates plan frame old new → IsNextFrame raw plan frame next
        → (next.number ≡ suc t) × IsFrame raw order k next.number next × AreSections raw order k next.number new
    one_more gates old new next is so adds offset =
        let P : List Gate → Type 0 = λ gs. AddsFrame raw gs plan frame old new in
        let there = next_frame next offset in
        let sections = sections_more old new so (subst P is adds) in (
          there.number,
          subst (λ n. IsFrame raw order k n next) (sym there.number) there,
          subst (λ n. AreSections raw order k n new) (sym there.number) sections,
        )
