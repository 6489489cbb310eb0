use Rattle.std.proofs.Common.{take}
use Rattle.aig_script.specs.Lines.{IsPiece}
use Rattle.aig_script.proofs.script.short_length.Given as goal

abbrev pub invariant-loop-size : goal.invariant-loop-size
invariant-loop-size l = IsPiece (take l.size l.bytes)
