use Rattle.std.proofs.Common.{◌≡◌, take}
use Rattle.std.specs.Map.{keys_of}
use Rattle.aig_parts.specs.state.SymbolHash.{mixed_of}
use Rattle.aig_parts.proofs.symbols.table.hash_of.Given as goal

abbrev pub invariant-loop-entry : goal.invariant-loop-entry
invariant-loop-entry l = l.mixed ≡ mixed_of (keys_of (take l.entry-index l.entries))
