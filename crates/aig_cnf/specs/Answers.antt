-- When there is a formula of a query (our own choice).
-- Example: for 0 frames `NoFrames`, also of a property that is not there.
use Rattle.std.specs.Prelude.{◌≡◌, ◌<◌, ◌≤◌, length}
use Rattle.aig_parts.specs.declared.raw.Raw.{Raw}
use Rattle.aig_cnf.specs.Query.{depth, subject}
use Rattle.aig_cnf.specs.declared.fault.CnfFault.{CnfFault}
use Rattle.aig_cnf.specs.declared.fault.CnfFault.TheVariants as faults
use Rattle.aig_cnf.specs.declared.query.Query.{Query}
use Rattle.aig_unroll.specs.Unrollable.{FitsLimits}

-- there is a frame and such a bad literal, and the unrolled circuit is within its limits, whatever liveness there is
pub record HasFormula (raw : Raw) (query : Query) : Type 0 where
  pub frames : 0 < query.frames
  pub property : query.property < length raw.bad
  pub limits : FitsLimits (subject query.goal raw) (depth query)

-- the fault is the first that applies; no memory was found only where none of the others applies
abbrev pub RefusesFormula : Raw → Query → CnfFault → Type 0
RefusesFormula raw query faults.NoFrames = query.frames ≡ 0
RefusesFormula raw query faults.Property = (0 < query.frames) × (length raw.bad ≤ query.property)
RefusesFormula raw query faults.Limit =
    (0 < query.frames) × (query.property < length raw.bad) × (FitsLimits (subject query.goal raw) (depth query) → ⊥)
RefusesFormula raw query faults.Memory = HasFormula raw query
