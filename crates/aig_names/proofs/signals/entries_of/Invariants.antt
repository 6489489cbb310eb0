use Rattle.std.proofs.Common.{◌≡◌, map}
use Rattle.aig_names.specs.Signals.{entries}
use Rattle.aig_names.specs.state.Naming.{entry_names}
use Rattle.aig_names.proofs.signals.entries_of.Given as goal

abbrev pub invariant-loop-position : goal.invariant-loop-position
invariant-loop-position l =
    map entry_names l.entries.items ≡ entries l.symbols l.section.kind l.section.first l.position
