-- The value of a literal at a frame, as a bench answers it (our own choice).
-- Example: literal 10 of `examples/two_gates.aag` at frame 9: 3 before 6.
use Rattle.std.specs.Prelude.{ℕ, ◌≤◌, length, Result, Ok, Err}
use Rattle.aig_parts.specs.declared.ternary.Tern.{Tern}
use Rattle.aig_parts.specs.Literal.{variable}
use Rattle.aig_base.specs.Sections.{IsDefined}
use Rattle.aig_base.specs.Sound.{IsInRange}
use Rattle.aig_bench.specs.declared.edit.EditFault.{EditFault}
use Rattle.aig_bench.specs.declared.edit.EditFault.TheVariants as fault
use Rattle.aig_bench.specs.BenchState.{CircuitAndRows, HasValue}
use Rattle.aig_bench.specs.Edit.{NoneApplies, IsLeastFault}

-- the fault applies to the question
abbrev pub ForbidsValue : CircuitAndRows → ℕ → ℕ → EditFault → Type 0
ForbidsValue p t l fault.Range = IsInRange p.circuit l → ⊥
ForbidsValue p t l fault.Undefined = IsDefined p.circuit (variable l) → ⊥
ForbidsValue p t l fault.NoFrame = length p.rows ≤ t
ForbidsValue p t l _ = ⊥

-- the answer is the value, or the fault of least number that applies
abbrev pub AnswersValue : CircuitAndRows → ℕ → ℕ → Result Tern EditFault → Type 0
AnswersValue p t l (Ok w) = NoneApplies (ForbidsValue p t l) × HasValue p t l w
AnswersValue p t l (Err f) = IsLeastFault (ForbidsValue p t l) f
