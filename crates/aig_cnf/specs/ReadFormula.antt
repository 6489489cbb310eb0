-- The formula of a query over the part of a circuit that its property reads (our own choice).
-- Example: of two inputs, a bad literal that reads the second has a formula of two variables for one frame.
use Rattle.std.specs.Prelude.{◌≡◌, ℕ, ◌<◌, ◌≤◌, Bool, false, List, length, Some, slice_get, slice_index_or}
use Rattle.aig_parts.specs.declared.raw.Raw.{Raw}
use Rattle.aig_base.specs.Part.{AreReadMarks, TestsRead, part}
use Rattle.aig_cnf.specs.Alive.{always_bad}
use Rattle.aig_cnf.specs.Formula.{Cnf, IsFormulaOf}
use Rattle.aig_cnf.specs.Query.{depth, last, subject}
use Rattle.aig_cnf.specs.declared.fault.CnfFault.{CnfFault}
use Rattle.aig_cnf.specs.declared.fault.CnfFault.TheVariants as faults
use Rattle.aig_cnf.specs.declared.query.Query.{Query}
use Rattle.aig_unroll.specs.Unrollable.{FitsLimits}

-- the mark of a variable, which says whether it is read
abbrev pub marked : List Bool → ℕ → Bool
marked marks v = slice_index_or marks v false

-- the query about the one property of the part
abbrev pub of_part : Query → Query
of_part query = record query { property = 0 }

-- a formula over a part, the part where the goal starts, and a mark for each variable of the circuit
pub record ReadCnf : Type 0 where
  pub cnf : Cnf
  pub small : Raw
  pub marks : List Bool

-- it is that of the query about the circuit
pub record IsReadOf (raw : Raw) (query : Query) (read : ReadCnf) : Type 0 where
  pub bad : ℕ
  pub bad_is : slice_get raw.bad query.property ≡ Some bad
  pub marks : AreReadMarks raw bad read.marks
  pub small : read.small ≡ subject query.goal (part raw bad (marked read.marks))
  pub cnf : IsFormulaOf (part raw bad (marked read.marks)) (of_part query) read.cnf

-- the formula alone
pub record IsReadFormulaOf (raw : Raw) (query : Query) (formula : Cnf) : Type 0 where
  pub bad : ℕ
  pub bad_is : slice_get raw.bad query.property ≡ Some bad
  pub test : ℕ → Bool
  pub exact : TestsRead raw bad test
  pub is : IsFormulaOf (part raw bad test) (of_part query) formula

-- ---- when there is one

-- the part is within the limits of `unroll`, where the goal starts
pub record PartFits (raw : Raw) (query : Query) : Type 0 where
  pub bad : ℕ
  pub bad_is : slice_get raw.bad query.property ≡ Some bad
  pub test : ℕ → Bool
  pub exact : TestsRead raw bad test
  pub fits : FitsLimits (subject query.goal (part raw bad test)) (depth query)

-- there is a frame and such a bad literal, and the part is within the limits
pub record HasReadFormula (raw : Raw) (query : Query) : Type 0 where
  pub frames : 0 < query.frames
  pub property : query.property < length raw.bad
  pub limits : PartFits raw query

-- there is none, for this reason; memory may run out before the limit is asked
abbrev pub RefusesReadFormula : Raw → Query → CnfFault → Type 0
RefusesReadFormula raw query faults.NoFrames = query.frames ≡ 0
RefusesReadFormula raw query faults.Property = (0 < query.frames) × (length raw.bad ≤ query.property)
RefusesReadFormula raw query faults.Limit =
    (0 < query.frames) × (query.property < length raw.bad) × (PartFits raw query → ⊥)
RefusesReadFormula raw query faults.Memory = (0 < query.frames) × (query.property < length raw.bad)

-- ---- that a run keeps all constraints at k frames

abbrev pub IsReadAliveOf : Raw → ℕ → ReadCnf → Type 0
IsReadAliveOf raw k read = IsReadOf (always_bad raw) (last k 0) read

abbrev pub IsReadAliveFormulaOf : Raw → ℕ → Cnf → Type 0
IsReadAliveFormulaOf raw k formula = IsReadFormulaOf (always_bad raw) (last k 0) formula

abbrev pub HasReadAliveFormula : Raw → ℕ → Type 0
HasReadAliveFormula raw k = HasReadFormula (always_bad raw) (last k 0)

abbrev pub RefusesReadAlive : Raw → ℕ → CnfFault → Type 0
RefusesReadAlive raw k fault = RefusesReadFormula (always_bad raw) (last k 0) fault
