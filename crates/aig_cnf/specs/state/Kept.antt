-- What a formula keeps.
use Rattle.std.specs.Prelude.{ℕ, ◌+◌, ◌^◌, ◌<◌, ◌≤◌, List, [], length, All}
use Rattle.aig_parts.specs.Formed.{limit}
use Rattle.aig_parts.specs.Limits.{frame_limit}
use Rattle.aig_parts.specs.declared.gate.Gate.{Gate}
use Rattle.aig_parts.specs.declared.latch.Latch.{Latch}
use Rattle.aig_parts.specs.declared.raw.Raw.{Raw}
use Rattle.aig_cnf.specs.declared.query.Goal.{Goal}
use Rattle.aig_cnf.specs.declared.query.Goal.TheVariants as asked

-- the latches whose resets a formula is about
abbrev pub kept_latches : Goal → Raw → List Latch
kept_latches asked.Within raw = []
kept_latches asked.Last raw = []
kept_latches asked.Step raw = []
kept_latches asked.Induction raw = raw.latches

-- the gate's literals have eight digits at most
abbrev pub IsShort : Gate → Type 0
IsShort g = (g.lhs < 10 ^ 8) × (g.rhs0 < 10 ^ 8) × (g.rhs1 < 10 ^ 8)

-- how many variables there are, the literals of the start, the bad literals, and the gates
pub record Keeps (variables : ℕ) (starts goals : List ℕ) (gates : List Gate) : Type 0 where
  pub variables_fit : variables ≤ limit + 1
  pub latches : length starts ≤ limit
  pub some : 0 < length goals
  pub frames : length goals ≤ frame_limit
  pub few : length gates ≤ limit
  pub short : All IsShort gates
