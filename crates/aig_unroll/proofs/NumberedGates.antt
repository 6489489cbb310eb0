-- Gates with the literals of the renumbered circuit, and what stands for those at a frame.
use Rattle.std.proofs.Common.{◌≡◌, inl, inr, ◌⊎◌, ℕ, ◌+◌, ◌-◌, ◌*◌, ◌/◌, ◌%◌, ◌<◌, ◌≤◌, nat_eq, nat_lt, Bool, true, false}
use Rattle.std.proofs.Common.{List, [], ◌∷◌, ◌++◌, map}
use Rattle.std.proofs.Common.{slice_index, All, Some, slice_get, refl, sym, ◌∙◌, ap, subst, arith}
use Rattle.std.proofs.lemmas.Bool.Decides.{nat_tests}
use Rattle.std.proofs.lemmas.List.{map-append}
use Rattle.std.proofs.lemmas.Option.{slice_get-map}
use Rattle.aig_parts.specs.declared.gate.Gate.{Gate}
use Rattle.aig_parts.specs.declared.raw.Raw.{Raw}
use Rattle.aig_parts.specs.Literal.{variable, negation, with_sign, IsNegated}
use Rattle.aig_base.specs.Renumbered.{gate_of}
use Rattle.aig_base.specs.RenumberingTable.{IsInTable, IsGateListed, HasAllEntries, literal_by}
use Rattle.aig_base.proofs.lists.Gets.{All-at, All-by_get}
use Rattle.aig_base.proofs.lists.Positions.{unmap_option}
use Rattle.aig_base.proofs.renumbered.Renumberings.{gate_stands}
use Rattle.aig_unroll.specs.declared.unrolling.frame_literals.Frame.{Frame}
use Rattle.aig_unroll.specs.declared.unrolling.plan.Plan.{Plan}
use Rattle.aig_unroll.specs.state.FrameTable.{numbered_at, literal_at, number_literal, numbered_gate, IsNumbered}
use Rattle.aig_unroll.specs.state.FrameTable.{IsGateNumbered, variable_at}

-- the sign of a literal turns one or leaves it
pub turned : (l k : ℕ) → IsNegated l → with_sign l k ≡ negation k
turned l k h = rw h refl

pub straight : (l k : ℕ) → (IsNegated l → ⊥) → with_sign l k ≡ k
straight l k h = let e : l % 2 ≡ 0 = omega arith in rw e refl

-- the literal of a gate is found by its distance from the first
pub gate_side : (plan : Plan) (frame : Frame) (l least first : ℕ) → least ≡ 2 * (plan.inputs + plan.latches + 1)
    → first ≡ 2 * variable_at plan frame.number 0 → least ≤ l → l - least + first ≡ numbered_at plan frame l
unfolding numbered_at number_literal
gate_side plan frame l least first e f le = go (nat_eq (l % 2) 0) refl
  where
    over : nat_lt (plan.inputs + plan.latches) (l / 2) ≡ true
    over = let k : plan.inputs + plan.latches < l / 2 = omega (arith, e, le) in grind (arith, nat_tests)

    parity : (l % 2 ≡ 0) ⊎ (l % 2 ≡ 1)
    parity = grind arith

    w : ℕ
    w = variable_at plan frame.number (l / 2 - (plan.inputs + plan.latches) - 1)

    go : (b : Bool) → nat_eq (l % 2) 0 ≡ b → l - least + first ≡ with_sign l (number_literal plan frame (l / 2))
    go true d =
        let z : l % 2 ≡ 0 = grind (arith, nat_tests) in
        rw (d, over) (omega (arith, e, f, le, z))
    go false d = elim parity [
      | inl z ↦ absurd (grind (arith, nat_tests))
      | inr o ↦ let g : 2 * w % 2 ≡ 0 = omega arith in rw (d, over, g) (omega (arith, e, f, le, o))
    ]

-- the variable of the renumbered circuit's literal
numbered_variable : (numbers : List ℕ) (l : ℕ) → variable (literal_by numbers l) ≡ slice_index numbers (variable l)
unfolding literal_by
numbered_variable numbers l = go (nat_eq (l % 2) 0) refl
  where
    n : ℕ
    n = slice_index numbers (l / 2)

    go : (b : Bool) → nat_eq (l % 2) 0 ≡ b → with_sign l (2 * n) / 2 ≡ n
    go true e = rw e (omega arith)
    go false e = let f : 2 * n % 2 ≡ 0 = omega arith in rw (e, f) (omega arith)

-- and its sign
numbered_sign : (numbers : List ℕ) (l k : ℕ) → with_sign (literal_by numbers l) k ≡ with_sign l k
unfolding literal_by
numbered_sign numbers l k = go (nat_eq (l % 2) 0) refl
  where
    n : ℕ
    n = slice_index numbers (l / 2)

    go : (b : Bool) → nat_eq (l % 2) 0 ≡ b → with_sign (with_sign l (2 * n)) k ≡ with_sign l k
    go true e = let f : 2 * n % 2 ≡ 0 = omega arith in rw (e, f) refl
    go false e =
        let f : 2 * n % 2 ≡ 0 = omega arith in
        let g : (2 * n + 1) % 2 ≡ 1 = omega arith in
        rw (e, f, g) refl

-- what stands for it at a frame stands there for the literal itself
pub numbered_same : (plan : Plan) (frame : Frame) (l : ℕ)
    → numbered_at plan frame (literal_by plan.numbers l) ≡ literal_at plan frame l
unfolding numbered_at literal_at
numbered_same plan frame l =
    numbered_sign plan.numbers l _
    ∙ ap (λ n. with_sign l (number_literal plan frame n)) (numbered_variable plan.numbers l)

module _ (plan : Plan) (within : All (λ n. n ≤ plan.inputs + plan.latches + plan.gates) plan.numbers) where
  is_numbered : (l : ℕ) → IsInTable plan.numbers l → IsNumbered plan (literal_by plan.numbers l)
  is_numbered l listed =
      let e = numbered_variable plan.numbers l in
      let k = within (variable l) 0 listed in
      omega arith

  is_gate_numbered : (g : Gate) → IsGateListed plan.numbers g → IsGateNumbered plan (numbered_gate plan.numbers g)
  is_gate_numbered g (a, b, d) = (is_numbered g.lhs a, is_numbered g.rhs0 b, is_numbered g.rhs1 d)

  pub are_numbered : (gates : List Gate) → All (IsGateListed plan.numbers) gates
      → All (IsGateNumbered plan) (map (numbered_gate plan.numbers) gates)
  are_numbered gates listed = All-by_get (IsGateNumbered plan) (map (numbered_gate plan.numbers) gates) (λ i y at.
      let (g, here, is) = unmap_option (numbered_gate plan.numbers) (slice_get gates i) y
      (sym (slice_get-map (numbered_gate plan.numbers) gates i) ∙ at) in
      subst (IsGateNumbered plan) is (is_gate_numbered g (All-at (IsGateListed plan.numbers) gates i g listed here)))

-- a gate that was found by its variable
pub found_listed : (raw : Raw) (numbers : List ℕ) → HasAllEntries raw numbers → (v : ℕ) (g : Gate)
    → gate_of raw v ≡ Some g → IsGateListed numbers g
found_listed raw numbers listed v g is =
    let (q, at, same) = gate_stands raw v g is in All-at (IsGateListed numbers) raw.gates q g listed.gates at

-- one more gate
pub gate_more : (numbers : List ℕ) (before : List Gate) (g : Gate)
    → map (numbered_gate numbers) (before ++ g ∷ []) ≡ map (numbered_gate numbers) before ++ numbered_gate numbers g ∷ []
gate_more numbers before g = map-append (numbered_gate numbers) before (g ∷ [])
