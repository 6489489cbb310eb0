use Rattle.std.proofs.Common.{◌≡◌, take}
use Rattle.indexmap.specs.IndexMap.{hasher_of}
use Rattle.aig_parts.proofs.symbols.table.others_of.Given as goal

abbrev pub invariant-loop-entry : goal.invariant-loop-entry
invariant-loop-entry l = record {
  entries : l.others.entries ≡ take l.entry-index l.entry-items;
  hasher : hasher_of l.others ≡ hasher_of l.initial.others;
}
