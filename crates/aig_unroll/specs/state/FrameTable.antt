-- How a frame's literals are found: by a number for each variable, and a literal for each latch.
use Rattle.std.specs.Prelude.{◌≡◌, ℕ, zero, suc, ◌+◌, ◌*◌, ◌-◌, ◌≤◌, nat_lt, if◌then◌else◌, List, [], ◌++◌, length, map}
use Rattle.std.specs.Prelude.{take, Option, Some, None, slice_get, All, slice_index}
use Rattle.std.specs.List.{range_with_len}
use Rattle.aig_parts.specs.declared.gate.Gate.{Gate}
use Rattle.aig_parts.specs.declared.latch.Latch.{Latch}
use Rattle.aig_parts.specs.declared.raw.Raw.{Raw}
use Rattle.aig_parts.specs.Formed.{limit}
use Rattle.aig_parts.specs.Literal.{variable, with_sign}
use Rattle.aig_base.specs.Renumbered.{ready_gate}
use Rattle.aig_base.specs.RenumberingTable.{IsRenumbering, literal_by}
use Rattle.aig_unroll.specs.declared.unrolling.plan.Plan.{Plan}
use Rattle.aig_unroll.specs.declared.unrolling.frame_literals.Frame.{Frame}
use Rattle.aig_unroll.specs.declared.unrolling.parts.GateLiterals.{GateLiterals}
use Rattle.aig_unroll.specs.declared.unrolling.sections.Sections.{Sections}
use Rattle.aig_unroll.specs.FrameLiteral.{frame_literal, frame_size, input_count, has_guards, chain_count, guard_count}
use Rattle.aig_unroll.specs.FrameLiteral.{is_uninitialised, uninitialised}
use Rattle.aig_unroll.specs.Unrolled.{frames, frame_literals, frame_bad, frame_gates, kept_constraints}

-- the plan of the circuit unrolled for k frames
pub record IsPlan (raw : Raw) (order : List ℕ) (k : ℕ) (plan : Plan) : Type 0 where
  pub inputs : plan.inputs ≡ length raw.inputs
  pub latches : plan.latches ≡ length raw.latches
  pub gates : plan.gates ≡ length raw.gates
  pub chain : plan.chain ≡ chain_count raw
  pub size : plan.size ≡ frame_size raw
  pub sources : plan.sources ≡ input_count raw k
  pub numbers : IsRenumbering raw order plan.numbers

-- each number and each variable of the frame is within the limit, and each latch has a literal
pub record IsWithin (plan : Plan) (frame : Frame) : Type 0 where
  pub numbers : All (λ n. n ≤ plan.inputs + plan.latches + plan.gates) plan.numbers
  pub definitions : plan.inputs + plan.latches + plan.gates ≤ limit
  pub inputs : frame.number * plan.inputs + plan.inputs ≤ plan.sources
  pub gates : plan.gates + plan.chain ≤ plan.size
  pub variables : plan.sources + (frame.number * plan.size + plan.size) ≤ limit
  pub latches : length frame.latches ≡ plan.latches

-- the variable of the n-th gate of the frame, from 0
abbrev pub variable_at : Plan → ℕ → ℕ → ℕ
variable_at plan number n = plan.sources + number * plan.size + n + 1

-- the literal of the variable with this number in the renumbered circuit
unfoldable pub number_literal : Plan → Frame → ℕ → ℕ
number_literal plan frame n =
    if nat_lt (plan.inputs + plan.latches) n
    then 2 * variable_at plan frame.number (n - (plan.inputs + plan.latches) - 1)
    else (if nat_lt plan.inputs n then slice_index frame.latches (n - plan.inputs - 1)
    else (if nat_lt 0 n then 2 * (frame.number * plan.inputs + n) else 0))

-- the literal that stands for l at the frame; negations are kept
unfoldable pub literal_at : Plan → Frame → ℕ → ℕ
literal_at plan frame l = with_sign l (number_literal plan frame (slice_index plan.numbers (variable l)))

-- the gate with the renumbered circuit's literals in place of its own, its sides as they stand
abbrev pub numbered_gate : List ℕ → Gate → Gate
numbered_gate numbers g = record {
  lhs = literal_by numbers g.lhs;
  rhs0 = literal_by numbers g.rhs0;
  rhs1 = literal_by numbers g.rhs1;
}

-- the literal that stands for the renumbered circuit's literal l at the frame; negations are kept
unfoldable pub numbered_at : Plan → Frame → ℕ → ℕ
numbered_at plan frame l = with_sign l (number_literal plan frame (variable l))

-- the gate at the frame of one with the renumbered circuit's literals, with the greater right side first
abbrev pub plan_gate : Plan → Frame → Gate → Gate
plan_gate plan frame g =
    ready_gate (numbered_at plan frame g.lhs) (numbered_at plan frame g.rhs0) (numbered_at plan frame g.rhs1)

-- the literal's variable is one of the renumbered circuit
abbrev pub IsNumbered : Plan → ℕ → Type 0
IsNumbered plan l = variable l ≤ plan.inputs + plan.latches + plan.gates

abbrev pub IsGateNumbered : Plan → Gate → Type 0
IsGateNumbered plan g = IsNumbered plan g.lhs × IsNumbered plan g.rhs0 × IsNumbered plan g.rhs1

-- the least literal of a gate of the renumbered circuit, and what stands for it at the frame
pub record AreGateLiterals (plan : Plan) (frame : Frame) (literals : GateLiterals) : Type 0 where
  pub least : literals.least ≡ 2 * (plan.inputs + plan.latches + 1)
  pub first : literals.first ≡ 2 * variable_at plan frame.number 0

abbrev pub first_literal_of : List Latch → ℕ → ℕ → Option Latch → ℕ
first_literal_of latches offset p None = 0
first_literal_of latches offset p (Some x) =
    if is_uninitialised x then 2 * (offset + uninitialised (take p latches) + 1) else x.reset

-- the literal of the latch at a position at the first frame, where inputs of uninitialised ones are after this variable
abbrev pub first_at : List Latch → ℕ → ℕ → ℕ
first_at latches offset p = first_literal_of latches offset p (slice_get latches p)

-- the last chain literal before the frame, or 1 where it is the first
abbrev pub plan_chain_before : Plan → ℕ → ℕ
plan_chain_before plan zero = 1
plan_chain_before plan (suc t) = 2 * (plan.sources + t * plan.size + plan.gates + plan.chain)

-- the chain literal before the chain gate at a place
abbrev pub plan_link_before : Plan → Frame → ℕ → ℕ
plan_link_before plan frame zero = plan_chain_before plan frame.number
plan_link_before plan frame (suc c) = 2 * variable_at plan frame.number (plan.gates + c)

abbrev pub plan_chain_gate : Plan → Frame → List ℕ → ℕ → Gate
plan_chain_gate plan frame constraints c =
    ready_gate (2 * variable_at plan frame.number (plan.gates + c)) (literal_at plan frame (slice_index constraints c))
    (plan_link_before plan frame c)

abbrev pub plan_guard_literal : Plan → Frame → ℕ → ℕ
plan_guard_literal plan frame p = 2 * variable_at plan frame.number (plan.gates + plan.chain + p)

abbrev pub plan_guard_gate : Plan → Frame → List ℕ → ℕ → Gate
plan_guard_gate plan frame bad p =
    ready_gate (plan_guard_literal plan frame p) (literal_at plan frame (slice_index bad p))
    (2 * variable_at plan frame.number (plan.gates + plan.chain - 1))

-- the gates of a frame, of those in the order with the renumbered circuit's literals, and its bad literals
abbrev pub plan_gates : Raw → List Gate → Plan → Frame → List Gate
plan_gates raw numbered plan frame =
    map (plan_gate plan frame) numbered
    ++ map (plan_chain_gate plan frame raw.constraints) (range_with_len 0 (chain_count raw))
    ++ map (plan_guard_gate plan frame raw.bad) (range_with_len 0 (guard_count raw))

abbrev pub bad_at : Raw → Plan → Frame → List ℕ
bad_at raw plan frame =
    if has_guards raw then map (plan_guard_literal plan frame) (range_with_len 0 (guard_count raw))
    else map (literal_at plan frame) raw.bad

-- what the bad literals and the constraints of a frame add
pub record AddsProperties (raw : Raw) (plan : Plan) (frame : Frame) (old new : Sections) : Type 0 where
  pub outputs : new.outputs ≡ old.outputs
  pub bad : new.bad ≡ old.bad ++ bad_at raw plan frame
  pub constraints : new.constraints ≡ old.constraints ++ map (literal_at plan frame) (kept_constraints raw)
  pub gates : new.gates ≡ old.gates ++ plan_gates raw [] plan frame

-- what a frame adds
pub record AddsFrame (raw : Raw) (numbered : List Gate) (plan : Plan) (frame : Frame) (old new : Sections) : Type
    0 where
  pub outputs : new.outputs ≡ old.outputs ++ map (literal_at plan frame) raw.outputs
  pub bad : new.bad ≡ old.bad ++ bad_at raw plan frame
  pub constraints : new.constraints ≡ old.constraints ++ map (literal_at plan frame) (kept_constraints raw)
  pub gates : new.gates ≡ old.gates ++ plan_gates raw numbered plan frame

-- no frame adds anything
pub record AddsNothing (raw : Raw) (order : List ℕ) : Type 0 where
  pub outputs : raw.outputs ≡ []
  pub bad : raw.bad ≡ []
  pub constraints : raw.constraints ≡ []
  pub gates : order ≡ []

-- the frame after another
pub record IsNextFrame (raw : Raw) (plan : Plan) (frame next : Frame) : Type 0 where
  pub number : next.number ≡ frame.number + 1
  pub latches : next.latches ≡ map (λ x. literal_at plan frame x.next) raw.latches

-- the sections of the first n of k frames
pub record AreSections (raw : Raw) (order : List ℕ) (k n : ℕ) (sections : Sections) : Type 0 where
  pub outputs : sections.outputs ≡ frames (frame_literals raw order k raw.outputs) n
  pub bad : sections.bad ≡ frames (frame_bad raw order k) n
  pub constraints : sections.constraints ≡ frames (frame_literals raw order k (kept_constraints raw)) n
  pub gates : sections.gates ≡ frames (frame_gates raw order k) n

-- frame t, with the frame literal of each latch
pub record IsFrame (raw : Raw) (order : List ℕ) (k t : ℕ) (frame : Frame) : Type 0 where
  pub number : frame.number ≡ t
  pub latches : frame.latches ≡ map (λ x. frame_literal raw order k t x.lit) raw.latches
