-- What is asked of bad literal p of a circuit, over k frames (our own choice).
-- Examples: `within 3 0` takes 3 frames, `step 3 0` and `induction 3 0` take 4; the latch `2 3 0` becomes `2 3 2`.
use Rattle.std.specs.Prelude.{ℕ, ◌+◌, map}
use Rattle.aig_parts.specs.declared.latch.Latch.{Latch}
use Rattle.aig_parts.specs.declared.raw.Raw.{Raw}
use Rattle.aig_cnf.specs.declared.query.Goal.{Goal}
use Rattle.aig_cnf.specs.declared.query.Goal.TheVariants as goals
use Rattle.aig_cnf.specs.declared.query.Query.{Query}

-- a run from a start that the resets allow reaches it within k frames
abbrev pub within : ℕ → ℕ → Query
within k p = record { goal = goals.Within; frames = k; property = p }

-- a run from a start that the resets allow reaches it at the last of k frames
abbrev pub last : ℕ → ℕ → Query
last k p = record { goal = goals.Last; frames = k; property = p }

-- a run from any state reaches it at frame k, and at none before: the step of an induction over frames
abbrev pub step : ℕ → ℕ → Query
step k p = record { goal = goals.Step; frames = k; property = p }

-- a run from a start that the resets allow reaches it within k frames, or one from any state reaches it at frame k, and
-- at none before: either disproves an induction over k frames
abbrev pub induction : ℕ → ℕ → Query
induction k p = record { goal = goals.Induction; frames = k; property = p }

-- how many frames the circuit is unrolled for
abbrev pub depth_of : Goal → ℕ → ℕ
depth_of goals.Within k = k
depth_of goals.Last k = k
depth_of goals.Step k = k + 1
depth_of goals.Induction k = k + 1

abbrev pub depth : Query → ℕ
depth query = depth_of query.goal query.frames

-- the latch starts at any value
abbrev pub uninitialised_latch : Latch → Latch
uninitialised_latch x = record x { reset = x.lit }

-- the circuit in which each latch does
abbrev pub from_any_state : Raw → Raw
from_any_state raw = record raw { latches = map uninitialised_latch raw.latches }

-- the circuit that is unrolled
abbrev pub subject : Goal → Raw → Raw
subject goals.Within raw = raw
subject goals.Last raw = raw
subject goals.Step raw = from_any_state raw
subject goals.Induction raw = from_any_state raw
