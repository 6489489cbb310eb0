-- The circuit unrolled for k frames, its time-frame expansion. Where the standard is silent, this is our own choice.
-- Example: `aag 2 2 0 0 0 1 1`, bad 2, constraint 4, for 2 frames: bad 12 and 16, gates `10 4 1`, `12 10 2`, `14 10 8`,
-- `16 14 6`.
use Rattle.std.specs.Prelude.{ℕ, zero, suc, ◌+◌, ◌*◌, ◌-◌, if◌then◌else◌, List, [], ◌++◌, length, map, None}
use Rattle.std.specs.Prelude.{slice_index}
use Rattle.std.specs.List.{range_with_len}
use Rattle.aig_parts.specs.declared.gate.Gate.{Gate}
use Rattle.aig_parts.specs.declared.raw.Raw.{Raw}
use Rattle.aig_base.specs.Renumbered.{ready_gate, ordered_gates, evens}
use Rattle.aig_unroll.specs.FrameLiteral.{frame_literal, frame_gate_variable, frame_size, input_count, has_guards}
use Rattle.aig_unroll.specs.FrameLiteral.{chain_count, guard_count}

-- the lists of the frames 0, 1, .., k - 1, joined
abbrev pub frames : {A : Type 0} → (ℕ → List A) → ℕ → List A
frames f zero = []
frames f (suc k) = frames f k ++ f k

-- the gate at frame t, the greater right side first
abbrev pub frame_gate : Raw → List ℕ → ℕ → ℕ → Gate → Gate
frame_gate raw order k t g =
    ready_gate (frame_literal raw order k t g.lhs) (frame_literal raw order k t g.rhs0)
    (frame_literal raw order k t g.rhs1)

-- the literal of chain gate c of frame t: all constraints of earlier frames, and those of this one up to c
abbrev pub chain_literal : Raw → ℕ → ℕ → ℕ → ℕ
chain_literal raw k t c = 2 * frame_gate_variable raw k t (length raw.gates + c)

-- the last chain literal of frame t
abbrev pub last_chain : Raw → ℕ → ℕ → ℕ
last_chain raw k t = chain_literal raw k t (chain_count raw - 1)

-- the last chain literal before frame t, or 1 where t is the first
abbrev pub chain_before : Raw → ℕ → ℕ → ℕ
chain_before raw k zero = 1
chain_before raw k (suc t) = last_chain raw k t

-- the chain literal before chain gate c of frame t
abbrev pub link_before : Raw → ℕ → ℕ → ℕ → ℕ
link_before raw k t zero = chain_before raw k t
link_before raw k t (suc c) = chain_literal raw k t c

-- chain gate c of frame t: the constraint, and the chain literal before it
abbrev pub chain_gate : Raw → List ℕ → ℕ → ℕ → ℕ → Gate
chain_gate raw order k t c =
    ready_gate (chain_literal raw k t c) (frame_literal raw order k t (slice_index raw.constraints c))
    (link_before raw k t c)

-- the literal of guard gate p of frame t
abbrev pub guard_literal : Raw → ℕ → ℕ → ℕ → ℕ
guard_literal raw k t p = 2 * frame_gate_variable raw k t (length raw.gates + chain_count raw + p)

-- guard gate p of frame t: the bad literal, and the last chain literal of the frame
abbrev pub guard_gate : Raw → List ℕ → ℕ → ℕ → ℕ → Gate
guard_gate raw order k t p =
    ready_gate (guard_literal raw k t p) (frame_literal raw order k t (slice_index raw.bad p)) (last_chain raw k t)

-- the gates of frame t: those of the circuit in the canonical order, the chain, the guards
abbrev pub frame_gates : Raw → List ℕ → ℕ → ℕ → List Gate
frame_gates raw order k t =
    map (frame_gate raw order k t) (ordered_gates raw order)
    ++ map (chain_gate raw order k t) (range_with_len 0 (chain_count raw))
    ++ map (guard_gate raw order k t) (range_with_len 0 (guard_count raw))

-- the literals at frame t
abbrev pub frame_literals : Raw → List ℕ → ℕ → List ℕ → ℕ → List ℕ
frame_literals raw order k ls t = map (frame_literal raw order k t) ls

-- the bad literals of frame t: the guards, where there are any
abbrev pub frame_bad : Raw → List ℕ → ℕ → ℕ → List ℕ
frame_bad raw order k t =
    if has_guards raw then map (guard_literal raw k t) (range_with_len 0 (guard_count raw))
    else frame_literals raw order k raw.bad t

-- the constraints that stay a section: none where there are guards
abbrev pub kept_constraints : Raw → List ℕ
kept_constraints raw = if has_guards raw then [] else raw.constraints

abbrev pub unrolled : Raw → List ℕ → ℕ → Raw
unrolled raw order k = record {
  max_var = input_count raw k + k * frame_size raw;
  inputs = evens (input_count raw k);
  latches = [];
  outputs = frames (frame_literals raw order k raw.outputs) k;
  bad = frames (frame_bad raw order k) k;
  constraints = frames (frame_literals raw order k (kept_constraints raw)) k;
  justice = [];
  fairness = [];
  gates = frames (frame_gates raw order k) k;
  symbols = [];
  comment = None;
}
