use Rattle.std.proofs.Common.{take}
use Rattle.aig_base.specs.state.LeastFaulty.{IsLeastAmong, IsMarkedGate, gate_variable}
use Rattle.aig_base.proofs.check.least_faulty.least_unmarked.Given as goal

abbrev pub invariant-loop-gate : goal.invariant-loop-gate
invariant-loop-gate l = IsLeastAmong (IsMarkedGate l.marks) gate_variable (take l.gate-index l.gates) l.least
