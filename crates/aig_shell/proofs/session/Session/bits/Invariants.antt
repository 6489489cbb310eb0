use Rattle.std.proofs.Common.{take}
use Rattle.aig_shell.specs.Tables.{AreBits}
use Rattle.aig_shell.proofs.session.Session.bits.Given as goal

abbrev pub invariant-loop-literal : goal.invariant-loop-literal
invariant-loop-literal l = AreBits l.self.run.bench.pair l.frame (take l.literal-index l.literals) l.bits.items
