-- A binary file can hold the unrolled circuit.
use Rattle.std.proofs.Common.{◌≡◌, ℕ, zero, suc, ◌+◌, ◌*◌, ◌<◌, ◌≤◌, inl, inr, nat_lt, Bool, true, false, List, ◌++◌}
use Rattle.std.proofs.Common.{length, map, All, slice_index, Some, slice_get, option_map, refl, sym, ◌∙◌, ap, ap₂}
use Rattle.std.proofs.Common.{subst, arith, zero-mul}
use Rattle.std.specs.List.{range_with_len}
use Rattle.std.proofs.Math.Nat.{mul-le-mul_right}
use Rattle.std.proofs.lemmas.List.{length-map, map-append}
use Rattle.std.proofs.lemmas.List.Elements.{All-nil, All-append, All-weaker}
use Rattle.std.proofs.lemmas.List.FromFn.{length-map-range_with_len, get_or-map-range_with_len}
use Rattle.std.proofs.lemmas.Option.{slice_get-map, slice_get_within, get_or_from_slice_get}
use Rattle.aig_parts.specs.declared.gate.Gate.{Gate}
use Rattle.aig_parts.specs.declared.raw.Raw.{Raw}
use Rattle.aig_base.specs.Circuit.{IsCircuit}
use Rattle.aig_parts.specs.Literal.{variable}
use Rattle.aig_base.specs.Order.{IsCanonicalOrder}
use Rattle.aig_base.specs.state.BinaryReady.{SectionsInOrder}
use Rattle.aig_base.specs.Renumbered.{ordered_gates, ready_gate, renumbered, renumbered_gate, renumbered_literal}
use Rattle.aig_base.specs.Renumbered.{renumbered_variable, evens, evens_from, IsBinaryReady}
use Rattle.aig_base.proofs.lists.Positions.{unmap_option}
use Rattle.aig_base.proofs.lists.Counting.{length-order}
use Rattle.aig_base.proofs.lists.Evens.{joined, evens-append, length-evens_from}
use Rattle.aig_base.proofs.lists.Gets.{All-at, All-by_get}
use Rattle.aig_base.proofs.renumbered.RenumberedParts.{length-ordered}
use Rattle.aig_base.proofs.renumbered.RenumberedReady.{ordered_gate, gate_literal, renumbered_ready, evens_map}
use Rattle.aig_base.proofs.renumbered.RenumberedReady.{goes_down, lhs_stays, sign_cases}
use Rattle.aig_unroll.specs.FrameLiteral.{frame_literal, frame_size, input_count, chain_count, guard_count}
use Rattle.aig_unroll.specs.Unrolled.{unrolled, frames, frame_gate, frame_gates, chain_gate, chain_literal, link_before}
use Rattle.aig_unroll.specs.Unrolled.{chain_before, guard_gate, guard_literal, last_chain}
use Rattle.aig_unroll.proofs.FrameBounds.{literal_bound, any_bound}
use Rattle.aig_unroll.proofs.FrameLiterals.{of_gate}
use Rattle.aig_unroll.proofs.Guarding.{guarded_by_guard}

-- the item at a place of those by their places
pub range_at : {A : Type 0} (f : ℕ → A) (n i : ℕ) (x : A) → slice_get (map f (range_with_len 0 n)) i ≡ Some x
    → (i < n) × (x ≡ f i)
range_at f n i x at =
    let inside = slice_get_within (map f (range_with_len 0 n)) i x at in
    let below : i < n = omega (arith, length-map-range_with_len f 0 n) in (
      below,
      sym (get_or_from_slice_get (map f (range_with_len 0 n)) i x x at)
          ∙ get_or-map-range_with_len f 0 n i i x below (omega arith),
    )

pub All-range : {A : Type 0} (P : A → Type 0) (f : ℕ → A) (n : ℕ) → ((i : ℕ) → i < n → P (f i))
    → All P (map f (range_with_len 0 n))
All-range P f n each = All-by_get P (map f (range_with_len 0 n)) (λ i x at.
    let (below, is) = range_at f n i x at in subst P (sym is) (each i below))

pub All-frames : {A : Type 0} (P : A → Type 0) (f : ℕ → List A) (n : ℕ) → ((t : ℕ) → t < n → All P (f t))
    → All P (frames f n)
All-frames P f zero each = All-nil P
All-frames P f (suc n) each =
    All-append P (frames f n) (f n) (All-frames P f n (λ t lt. each t (omega arith))) (each n (omega arith))

-- both sides of a gate are below its left side where they go down
sides_below : (lhs a b : ℕ) → (ready_gate lhs a b).rhs0 < (ready_gate lhs a b).lhs
    → (ready_gate lhs a b).rhs1 ≤ (ready_gate lhs a b).rhs0 → (a < lhs) × (b < lhs)
sides_below lhs a b = go (nat_lt a b) refl
  where
    go : (s : Bool) → nat_lt a b ≡ s → (ready_gate lhs a b).rhs0 < (ready_gate lhs a b).lhs
        → (ready_gate lhs a b).rhs1 ≤ (ready_gate lhs a b).rhs0 → (a < lhs) × (b < lhs)
    go true e p q =
        let p' : b < lhs = rw e at p in let q' : a ≤ b = rw e at q in (omega arith, p')
    go false e p q =
        let p' : a < lhs = rw e at p in let q' : b ≤ a = rw e at q in (p', omega arith)

lower : (raw : Raw) (order : List ℕ) (l : ℕ)
    → 2 * renumbered_variable raw order (variable l) ≤ renumbered_literal raw order l
unfolding renumbered_literal
lower raw order l = elim (sign_cases l (renumbered_variable raw order (variable l)))
    [ inl e ↦ omega arith | inr e ↦ omega arith ]

-- what is asked of a gate among variables up to m
pub record IsReadyGate (m : ℕ) (g : Gate) : Type 0 where
  pub first : g.rhs0 < g.lhs
  pub second : g.rhs1 ≤ g.rhs0
  pub within : g.lhs ≤ 2 * m

made_ready : (m lhs a b : ℕ) → a < lhs → b < lhs → lhs ≤ 2 * m → IsReadyGate m (ready_gate lhs a b)
made_ready m lhs a b la lb le =
    let (p, q) = goes_down lhs a b la lb in
    record { first = p; second = q; within = rw (lhs_stays lhs a b) le }

module _ (raw : Raw) (circuit : IsCircuit raw) (order : List ℕ) (canonical : IsCanonicalOrder raw order) (k : ℕ) where
  -- the sides of the gate at a place have lower numbers
  gate_sides : (i : ℕ) (g : Gate) → slice_get (ordered_gates raw order) i ≡ Some g
      → (renumbered_variable raw order (variable g.rhs0) ≤ length raw.inputs + length raw.latches + i)
      × (renumbered_variable raw order (variable g.rhs1) ≤ length raw.inputs + length raw.latches + i)
  gate_sides i g here =
      let (q, lt, at, is) = ordered_gate raw circuit.sound order canonical i g here in
      let ready = renumbered_ready raw circuit.sound order canonical circuit.acyclic in
      let stands : slice_get (renumbered raw order).gates i ≡ Some (renumbered_gate raw order g) =
      slice_get-map (renumbered_gate raw order) (ordered_gates raw order) i
      ∙ ap (option_map (renumbered_gate raw order)) here in
      let down = All-at (λ (h : Gate). (h.rhs0 < h.lhs) × (h.rhs1 ≤ h.rhs0)) (renumbered raw order).gates i
      (renumbered_gate raw order g) ready.gates stands in
      let (a, b) = sides_below (renumbered_literal raw order g.lhs) (renumbered_literal raw order g.rhs0)
      (renumbered_literal raw order g.rhs1) down.0 down.1 in
      let e = gate_literal raw circuit.sound order canonical q i g at lt is in
      let l0 = lower raw order g.rhs0 in
      let l1 = lower raw order g.rhs1 in
      (omega arith, omega arith)

  module _ (t : ℕ) (lt : t < k) where
    m : ℕ
    m = (unrolled raw order k).max_var

    room : t * frame_size raw + frame_size raw ≤ k * frame_size raw
    room = let up = mul-le-mul_right {m = suc t} {n = k} (frame_size raw) lt in omega arith

    ordinary_ready : (i : ℕ) (g : Gate) → slice_get (ordered_gates raw order) i ≡ Some g
        → IsReadyGate m (frame_gate raw order k t g)
    unfolding m
    ordinary_ready i g here =
        let (q, below, at, is) = ordered_gate raw circuit.sound order canonical i g here in
        let (a, b) = gate_sides i g here in
        let size = length-order raw circuit.sound order canonical in
        let e = of_gate raw circuit.sound order canonical k t q i g at below is in
        let p = literal_bound raw circuit.sound order canonical k t g.rhs0 i lt (omega arith) a in
        let q = literal_bound raw circuit.sound order canonical k t g.rhs1 i lt (omega arith) b in
        let r = room in
        made_ready ((unrolled raw order k).max_var) (frame_literal raw order k t g.lhs)
        (frame_literal raw order k t g.rhs0) (frame_literal raw order k t g.rhs1) (omega arith) (omega arith)
        (omega arith)

    before_below : (n : ℕ) → n ≡ t → 0 < chain_count raw → chain_before raw k n < chain_literal raw k t 0
    before_below zero is some = omega arith
    before_below (suc n) is some =
        let e : t * frame_size raw ≡ n * frame_size raw + frame_size raw = ap (λ j. j * frame_size raw) (sym is)
        ∙ omega arith in
        omega arith

    link_below : (c : ℕ) → c < chain_count raw → link_before raw k t c < chain_literal raw k t c
    link_below zero below = before_below t refl below
    link_below (suc c) below = omega arith

    chain_ready : (c : ℕ) → c < chain_count raw → IsReadyGate m (chain_gate raw order k t c)
    unfolding m
    chain_ready c below =
        let a = any_bound raw circuit.sound order canonical k t (slice_index raw.constraints c) lt in
        let b = link_below c below in
        let r = room in
        made_ready ((unrolled raw order k).max_var) (chain_literal raw k t c)
        (frame_literal raw order k t (slice_index raw.constraints c)) (link_before raw k t c) (omega arith) b
        (omega arith)

    guard_ready : (p : ℕ) → p < guard_count raw → IsReadyGate m (guard_gate raw order k t p)
    unfolding m
    guard_ready p below =
        let a = any_bound raw circuit.sound order canonical k t (slice_index raw.bad p) lt in
        let on = guarded_by_guard raw p below in
        let some : 0 < chain_count raw = omega (arith, on.chain, on.constraints) in
        let r = room in
        made_ready ((unrolled raw order k).max_var) (guard_literal raw k t p)
        (frame_literal raw order k t (slice_index raw.bad p)) (last_chain raw k t) (omega arith) (omega arith)
        (omega arith)

    frame_ready : All (IsReadyGate m) (frame_gates raw order k t)
    frame_ready =
        let ordinary : List Gate = map (frame_gate raw order k t) (ordered_gates raw order) in
        let chain : List Gate = map (chain_gate raw order k t) (range_with_len 0 (chain_count raw)) in
        let guards : List Gate = map (guard_gate raw order k t) (range_with_len 0 (guard_count raw)) in
        All-append (IsReadyGate m) (ordinary ++ chain) guards
        (All-append (IsReadyGate m) ordinary chain
        (All-by_get (IsReadyGate m) ordinary (λ i y at.
        let (g, here, is) = unmap_option (frame_gate raw order k t) (slice_get (ordered_gates raw order) i) y
        (sym (slice_get-map (frame_gate raw order k t) (ordered_gates raw order) i) ∙ at) in
        subst (IsReadyGate m) is (ordinary_ready i g here)))
        (All-range (IsReadyGate m) (chain_gate raw order k t) (chain_count raw) chain_ready))
        (All-range (IsReadyGate m) (guard_gate raw order k t) (guard_count raw) guard_ready)

  pub gates_ready : All (IsReadyGate ((unrolled raw order k).max_var)) (unrolled raw order k).gates
  unfolding m
  gates_ready = All-frames (IsReadyGate ((unrolled raw order k).max_var)) (frame_gates raw order k) k
      (λ t lt. frame_ready t lt)

  -- the left sides of a frame
  frame_sides : (t : ℕ)
      → map (λ g. g.lhs) (frame_gates raw order k t)
      ≡ evens_from (1 + input_count raw k + t * frame_size raw) (frame_size raw)
  frame_sides t =
      let v : ℕ = 1 + input_count raw k + t * frame_size raw in
      let lhs : Gate → ℕ = λ g. g.lhs in
      let ordinary : List Gate = map (frame_gate raw order k t) (ordered_gates raw order) in
      let chain : List Gate = map (chain_gate raw order k t) (range_with_len 0 (chain_count raw)) in
      let guards : List Gate = map (guard_gate raw order k t) (range_with_len 0 (guard_count raw)) in
      let a : map lhs ordinary ≡ evens_from v (length raw.gates) =
      evens_map lhs ordinary v (length raw.gates)
      (length-map (ordered_gates raw order) (frame_gate raw order k t)
      ∙ length-ordered raw circuit.sound order canonical)
      (λ i y at.
      let (g, here, is) = unmap_option (frame_gate raw order k t) (slice_get (ordered_gates raw order) i) y
      (sym (slice_get-map (frame_gate raw order k t) (ordered_gates raw order) i) ∙ at) in
      let (q, below, stands, place) = ordered_gate raw circuit.sound order canonical i g here in
      ap lhs (sym is)
      ∙ lhs_stays (frame_literal raw order k t g.lhs) (frame_literal raw order k t g.rhs0)
      (frame_literal raw order k t g.rhs1)
      ∙ of_gate raw circuit.sound order canonical k t q i g stands below place ∙ omega arith) in
      let b : map lhs chain ≡ evens_from (v + length raw.gates) (chain_count raw) =
      evens_map lhs chain (v + length raw.gates) (chain_count raw)
      (length-map-range_with_len (chain_gate raw order k t) 0 (chain_count raw))
      (λ c y at.
      let (below, is) = range_at (chain_gate raw order k t) (chain_count raw) c y at in
      ap lhs is
      ∙ lhs_stays (chain_literal raw k t c) (frame_literal raw order k t (slice_index raw.constraints c))
      (link_before raw k t c) ∙ omega arith) in
      let d : map lhs guards ≡ evens_from (v + (length raw.gates + chain_count raw)) (guard_count raw) =
      evens_map lhs guards (v + (length raw.gates + chain_count raw)) (guard_count raw)
      (length-map-range_with_len (guard_gate raw order k t) 0 (guard_count raw))
      (λ p y at.
      let (below, is) = range_at (guard_gate raw order k t) (guard_count raw) p y at in
      ap lhs is
      ∙ lhs_stays (guard_literal raw k t p) (frame_literal raw order k t (slice_index raw.bad p)) (last_chain raw k t)
      ∙ omega arith) in
      map-append lhs (ordinary ++ chain) guards
      ∙ ap₂ (λ (xs ys : List ℕ). xs ++ ys)
      (map-append lhs ordinary chain ∙ ap₂ (λ (xs ys : List ℕ). xs ++ ys) a b
      ∙ sym (evens-append v (length raw.gates) (chain_count raw))) d
      ∙ sym (evens-append v (length raw.gates + chain_count raw) (guard_count raw))

  all_sides : (n : ℕ)
      → map (λ g. g.lhs) (frames (frame_gates raw order k) n)
      ≡ evens_from (1 + input_count raw k) (n * frame_size raw)
  all_sides zero = rw (zero-mul (frame_size raw)) refl
  all_sides (suc n) =
      let e : suc n * frame_size raw ≡ n * frame_size raw + frame_size raw = omega arith in
      map-append (λ (g : Gate). g.lhs) (frames (frame_gates raw order k) n) (frame_gates raw order k n)
      ∙ ap₂ (λ (xs ys : List ℕ). xs ++ ys) (all_sides n) (frame_sides n)
      ∙ sym (evens-append (1 + input_count raw k) (n * frame_size raw) (frame_size raw))
      ∙ ap (evens_from (1 + input_count raw k)) (sym e)

  pub length-gates : length (unrolled raw order k).gates ≡ k * frame_size raw
  length-gates =
      sym (length-map (unrolled raw order k).gates (λ g. g.lhs)) ∙ ap length (all_sides k)
      ∙ length-evens_from (1 + input_count raw k) (k * frame_size raw)

  sections : SectionsInOrder (unrolled raw order k).inputs (unrolled raw order k).latches (unrolled raw order k).gates
      (unrolled raw order k).max_var
  sections =
      let li = length-evens_from 1 (input_count raw k) in
      let lg = length-gates in
      let e : 1 + input_count raw k ≡ 1 + length (evens (input_count raw k)) + 0 = omega arith in
      record {
        size = omega arith;
        inputs_are = ap evens (sym li);
        latches_are = refl;
        gates_are = all_sides k ∙ ap₂ (λ v n. evens_from v n) e (sym lg);
      }

  pub unrolled_ready : IsBinaryReady (unrolled raw order k)
  unrolled_ready = record {
    in_order = joined (unrolled raw order k) sections;
    gates = All-weaker (IsReadyGate (unrolled raw order k).max_var) (λ g. (g.rhs0 < g.lhs) × (g.rhs1 ≤ g.rhs0))
        (λ g h. (h.first, h.second)) (unrolled raw order k).gates gates_ready;
  }
