use Rattle.std.proofs.Common.{take, All}
use Rattle.aig_base.specs.Sections.{IsLatchLiteral}
use Rattle.aig_shell.proofs.session.are_latches.Given as goal

abbrev pub invariant-loop-literal : goal.invariant-loop-literal
invariant-loop-literal l = All (IsLatchLiteral l.circuit) (take l.literal-index l.literals)
