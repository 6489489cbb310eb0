use Rattle.std.proofs.Common.{◌+◌, [], not, count_by, vec_len, take}
use Rattle.aig_parts.specs.Literal.{variable}
use Rattle.aig_base.specs.state.ReadWalk.{HasMet, IsReading}
use Rattle.aig_base.proofs.part.read_marks.Given as goal

abbrev pub invariant-loop-constraint : goal.invariant-loop-constraint
invariant-loop-constraint l = HasMet l.circuit l.fn.bad (take l.constraint-index l.circuit.constraints) l.walk.pending.items l.walk.met.items

abbrev pub invariant-loop-read : goal.invariant-loop-read
invariant-loop-read l = HasMet l.circuit l.fn.bad l.circuit.constraints l.walk.pending.items l.walk.met.items

-- how many are not met, and how many are pending
abbrev pub decreases-loop-read : goal.decreases-loop-read
decreases-loop-read l = count_by not l.walk.met.items + vec_len l.walk.pending
