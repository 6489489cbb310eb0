use Rattle.std.proofs.Common.{◌+◌}
use Rattle.aig_cut.proofs.Reading.{HasRead}
use Rattle.aig_cut.proofs.marks.Marks.of.Given as goal

abbrev pub invariant-loop-line : goal.invariant-loop-line
invariant-loop-line l = HasRead l.circuit l.text l.marks l.rest (l.line + 1)
