-- The literal of the unrolled circuit that represents a literal at a frame. Where the standard is silent, this is our
-- own choice.
-- Example: literal 4 is 6 at frame 0 and 8 at frame 1.
use Rattle.std.specs.Prelude.{ℕ, zero, suc, ◌+◌, ◌*◌, ◌==◌, nat_lt, Bool, ◌&&◌, if◌then◌else◌, List, length, take}
use Rattle.std.specs.Prelude.{count_by, Option, Some, None, slice_get}
use Rattle.aig_parts.specs.declared.latch.Latch.{Latch}
use Rattle.aig_parts.specs.declared.raw.Raw.{Raw}
use Rattle.aig_parts.specs.Literal.{variable, with_sign}
use Rattle.aig_base.specs.Role as roles
use Rattle.aig_base.specs.Role.{Role, role}

-- the reset is the latch's own literal (AIGER 1.9, resets)
abbrev pub is_uninitialised : Latch → Bool
is_uninitialised x = x.reset == x.lit

-- how many latches are uninitialised
abbrev pub uninitialised : List Latch → ℕ
uninitialised latches = count_by is_uninitialised latches

-- bad literals are guarded where there are both bad literals and constraints
abbrev pub has_guards : Raw → Bool
has_guards raw = nat_lt 0 (length raw.bad) && nat_lt 0 (length raw.constraints)

-- how many chain gates a frame has: one a constraint
abbrev pub chain_count : Raw → ℕ
chain_count raw = if has_guards raw then length raw.constraints else 0

-- how many guard gates a frame has: one a bad literal
abbrev pub guard_count : Raw → ℕ
guard_count raw = if has_guards raw then length raw.bad else 0

-- how many gates a frame has
abbrev pub frame_size : Raw → ℕ
frame_size raw = length raw.gates + chain_count raw + guard_count raw

-- the inputs of all frames, and one for each uninitialised latch
abbrev pub input_count : Raw → ℕ → ℕ
input_count raw k = k * length raw.inputs + uninitialised raw.latches

-- the variable of the n-th gate of frame t, from 0, where k frames are unrolled
abbrev pub frame_gate_variable : Raw → ℕ → ℕ → ℕ → ℕ
frame_gate_variable raw k t n = input_count raw k + t * frame_size raw + n + 1

-- the latch at a position at frame 0: its reset, or an input if it is uninitialised
abbrev pub first_literal : Raw → ℕ → ℕ → Option Latch → ℕ
first_literal raw k p None = 0
first_literal raw k p (Some x) =
    if is_uninitialised x then 2 * (k * length raw.inputs + uninitialised (take p raw.latches) + 1) else x.reset

-- the latch at a later frame: its `next` at the frame before
abbrev pub next_literal : (ℕ → ℕ) → Option Latch → ℕ
next_literal before None = 0
next_literal before (Some x) = before x.next

-- the literal of what a variable is at frame t, where the second function has those of the latches
abbrev pub role_literal : Raw → ℕ → ℕ → (ℕ → ℕ) → Role → ℕ
role_literal raw k t latch_literal roles.constant = 0
role_literal raw k t latch_literal (roles.input p) = 2 * (t * length raw.inputs + p + 1)
role_literal raw k t latch_literal (roles.latch p) = latch_literal p
role_literal raw k t latch_literal (roles.gate q) = 2 * frame_gate_variable raw k t q

-- the literal of l at frame t by what its variable is; negations are kept, on constants too
abbrev pub literal_by : Raw → List ℕ → ℕ → ℕ → (ℕ → ℕ) → ℕ → ℕ
literal_by raw order k t latch_literal l =
    with_sign l (role_literal raw k t latch_literal (role raw order (variable l)))

-- the literal of the latch at a position at frame t
unfoldable pub latch_literal : Raw → List ℕ → ℕ → ℕ → ℕ → ℕ
latch_literal raw order k zero p = first_literal raw k p (slice_get raw.latches p)
latch_literal raw order k (suc t) p =
    next_literal (literal_by raw order k t (latch_literal raw order k t)) (slice_get raw.latches p)

-- the literal that stands for l at frame t
unfoldable pub frame_literal : Raw → List ℕ → ℕ → ℕ → ℕ → ℕ
frame_literal raw order k t = literal_by raw order k t (latch_literal raw order k t)
