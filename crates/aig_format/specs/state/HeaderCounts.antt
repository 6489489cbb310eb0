-- The counts of a header line, as functions keep them.
use Rattle.std.specs.Prelude.{ℕ, ◌≤◌, List, [], ◌∷◌, length}
use Rattle.aig_parts.specs.declared.raw.Raw.{Raw}
use Rattle.aig_parts.specs.Formed.{limit}
use Rattle.aig_format.specs.declared.reader.header.Counts.{Counts}

-- in the order of the line
abbrev pub in_line : Counts → List ℕ
in_line c =
    c.max_var ∷ c.inputs ∷ c.latches ∷ c.outputs ∷ c.gates ∷ c.bad ∷ c.constraints ∷ c.justice ∷ c.fairness ∷ []

-- those of parts
abbrev pub counted : Raw → Counts
counted raw = record {
  max_var = raw.max_var;
  inputs = length raw.inputs;
  latches = length raw.latches;
  outputs = length raw.outputs;
  gates = length raw.gates;
  bad = length raw.bad;
  constraints = length raw.constraints;
  justice = length raw.justice;
  fairness = length raw.fairness;
}

-- each count is within its limit
pub record AreWithin (c : Counts) : Type 0 where
  pub max_var : c.max_var ≤ limit
  pub inputs : c.inputs ≤ limit
  pub latches : c.latches ≤ limit
  pub outputs : c.outputs ≤ limit
  pub gates : c.gates ≤ limit
  pub bad : c.bad ≤ limit
  pub constraints : c.constraints ≤ limit
  pub justice : c.justice ≤ limit
  pub fairness : c.fairness ≤ limit
