-- What stands in the way of a formula.
use Rattle.std.specs.Prelude.{◌≡◌, ℕ, ◌<◌, ◌≤◌, length, Result, Ok, Err}
use Rattle.aig_parts.specs.declared.raw.Raw.{Raw}
use Rattle.aig_cnf.specs.Query.{depth}
use Rattle.aig_cnf.specs.declared.fault.CnfFault.{CnfFault}
use Rattle.aig_cnf.specs.declared.fault.CnfFault.TheVariants as faults
use Rattle.aig_cnf.specs.declared.query.Query.{Query}
use Rattle.aig_unroll.specs.Unrollable.{FitsLimits}

-- a circuit that starts where the goal does can be unrolled for k frames, or the fault is the first that applies
abbrev pub IsAnswered : Raw → Query → Result ℕ CnfFault → Type 0
IsAnswered raw query (Ok k) =
    (k ≡ depth query) × (0 < query.frames) × (query.property < length raw.bad) × FitsLimits raw k
IsAnswered raw query (Err faults.NoFrames) = query.frames ≡ 0
IsAnswered raw query (Err faults.Property) = (0 < query.frames) × (length raw.bad ≤ query.property)
IsAnswered raw query (Err faults.Limit) =
    (0 < query.frames) × (query.property < length raw.bad) × (FitsLimits raw (depth query) → ⊥)
IsAnswered raw query (Err faults.Memory) = ⊥
