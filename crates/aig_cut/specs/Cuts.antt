-- What of a circuit may be anything (our own choice). Only which parts there are counts, and not their order.
-- Example: of the lines `f 4`, `r 4` and `f 4` it is the next states of the latch of literal 4, and its reset.
use Rattle.std.specs.Prelude.{ℕ, ◌==◌, ◌⊎◌, ◌<◌, Bool, false, List, length}
use Rattle.std.specs.List.{list_any}
use Rattle.aig_parts.specs.declared.raw.Raw.{Raw}
use Rattle.aig_base.specs.Sections.{IsLatchLiteral, IsLeftSide}
use Rattle.aig_cut.specs.declared.line.Cut.{Cut}
use Rattle.aig_cut.specs.declared.line.Cut.TheVariants as cut

-- Which literals of latches and gates are free, which literals of latches may start at any value, and which positions
-- of constraints are not demanded.
pub record Cuts : Type 0 where
  pub free : ℕ → Bool
  pub starts : ℕ → Bool
  pub constraints : ℕ → Bool

-- the cut is this one
abbrev pub frees : ℕ → Cut → Bool
frees l (cut.Free m) = m == l
frees l _ = false

abbrev pub lets_start : ℕ → Cut → Bool
lets_start l (cut.Start m) = m == l
lets_start l _ = false

abbrev pub drops : ℕ → Cut → Bool
drops p (cut.Constraint q) = q == p
drops p _ = false

-- what some cuts name
abbrev pub named_by : List Cut → Cuts
named_by cuts = record {
  free = λ l. list_any (frees l) cuts;
  starts = λ l. list_any (lets_start l) cuts;
  constraints = λ p. list_any (drops p) cuts;
}

-- the circuit has what is cut: a latch or a gate of this literal, a latch of it, or a constraint at this position
abbrev pub IsCutIn : Raw → Cut → Type 0
IsCutIn raw (cut.Free l) = IsLatchLiteral raw l ⊎ IsLeftSide raw l
IsCutIn raw (cut.Start l) = IsLatchLiteral raw l
IsCutIn raw (cut.Constraint p) = p < length raw.constraints
