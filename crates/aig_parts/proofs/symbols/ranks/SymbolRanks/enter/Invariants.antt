use Rattle.std.proofs.Common.{take}
use Rattle.aig_parts.specs.state.SymbolRanks.{AreEntered}
use Rattle.aig_parts.proofs.symbols.ranks.SymbolRanks.enter.Given as goal

abbrev pub invariant-loop-place : goal.invariant-loop-place
invariant-loop-place l = AreEntered l.self (take l.place l.entries)
