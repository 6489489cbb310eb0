use Rattle.std.proofs.Common.{take}
use Rattle.aig_causes.specs.Causes.{moment}
use Rattle.aig_why.specs.Lines.{AreBits}
use Rattle.aig_why.proofs.lines.values.values_of.Given as goal

abbrev pub invariant-loop-literal : goal.invariant-loop-literal
invariant-loop-literal g l =
    AreBits l.bench.pair.circuit (moment l.bench.pair l.frame) (take l.literal-index l.literals) l.values.items
