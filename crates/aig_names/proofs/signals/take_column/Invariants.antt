use Rattle.std.proofs.Common.{◌≡◌, ◌≤◌, ◌+◌, ◌++◌, [], map, drop, take}
use Rattle.aig_names.specs.state.Naming.{named, entry_names, size_left}
use Rattle.aig_names.proofs.Columns.{heads, others}
use Rattle.aig_names.proofs.signals.take_column.Given as goal

abbrev pub invariant-loop-entry : goal.invariant-loop-entry
invariant-loop-entry l = record {
  column : map named l.column.items ++ heads (map entry_names (drop l.entry-index l.entries))
      ≡ heads (map entry_names l.entries);
  rest : map entry_names l.rest.items ++ others (map entry_names (drop l.entry-index l.entries))
      ≡ others (map entry_names l.entries);
  none : l.column.items ≡ [] → l.rest.items ≡ [];
  fewer : size_left l.rest.items + l.entry-index ≤ size_left (take l.entry-index l.entries);
}
