-- The formula over the part that is read for a bad literal.
use Rattle.std.specs.Prelude.{◌≡◌, ℕ, ◌<◌, ◌≤◌, Bool, length, Some, slice_get, Result, Ok, Err}
use Rattle.aig_parts.specs.declared.raw.Raw.{Raw}
use Rattle.aig_base.specs.Part.{AreReadMarks, TestsRead, part}
use Rattle.aig_cnf.specs.Formula.{IsFormulaOf}
use Rattle.aig_cnf.specs.Query.{depth_of, subject}
use Rattle.aig_cnf.specs.ReadFormula.{ReadCnf, marked}
use Rattle.aig_cnf.specs.declared.fault.CnfFault.{CnfFault}
use Rattle.aig_cnf.specs.declared.fault.CnfFault.TheVariants as faults
use Rattle.aig_cnf.specs.declared.query.Goal.{Goal}
use Rattle.aig_cnf.specs.declared.query.Query.{Query}
use Rattle.aig_unroll.specs.Unrollable.{FitsLimits}

-- the part is within the limits, where the goal starts
abbrev pub OverFits : Raw → ℕ → Goal → ℕ → Type 0
OverFits raw bad goal k =
    (test : ℕ → Bool) × TestsRead raw bad test × FitsLimits (subject goal (part raw bad test)) (depth_of goal k)

pub record IsOver (raw : Raw) (bad : ℕ) (goal : Goal) (k : ℕ) (read : ReadCnf) : Type 0 where
  pub marks : AreReadMarks raw bad read.marks
  pub small : read.small ≡ subject goal (part raw bad (marked read.marks))
  pub cnf : IsFormulaOf (part raw bad (marked read.marks)) (record { goal = goal; frames = k; property = 0 }) read.cnf
  pub fits : FitsLimits (subject goal (part raw bad (marked read.marks))) (depth_of goal k)

-- there is none, for this reason: the limits of the part, or memory
abbrev pub RefusesOver : Raw → ℕ → Goal → ℕ → CnfFault → Type 0
RefusesOver raw bad goal k faults.NoFrames = ⊥
RefusesOver raw bad goal k faults.Property = ⊥
RefusesOver raw bad goal k faults.Limit = OverFits raw bad goal k → ⊥
RefusesOver raw bad goal k faults.Memory = Unit

-- the bad literal of a query, or the fault
abbrev pub IsPropertyOf : Raw → Query → Result ℕ CnfFault → Type 0
IsPropertyOf raw query (Ok bad) = (0 < query.frames) × (slice_get raw.bad query.property ≡ Some bad)
IsPropertyOf raw query (Err faults.NoFrames) = query.frames ≡ 0
IsPropertyOf raw query (Err faults.Property) = (0 < query.frames) × (length raw.bad ≤ query.property)
IsPropertyOf raw query (Err faults.Limit) = ⊥
IsPropertyOf raw query (Err faults.Memory) = ⊥
