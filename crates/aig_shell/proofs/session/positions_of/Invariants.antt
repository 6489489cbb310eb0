use Rattle.std.proofs.Common.{take}
use Rattle.aig_shell.specs.Edits.{ArePositions}
use Rattle.aig_shell.proofs.session.positions_of.Given as goal

abbrev pub invariant-loop-literal : goal.invariant-loop-literal
invariant-loop-literal l = ArePositions l.circuit (take l.literal-index l.literals) l.positions.items
