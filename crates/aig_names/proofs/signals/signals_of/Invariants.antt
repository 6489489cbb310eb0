use Rattle.std.proofs.Common.{◌≡◌, ◌++◌, map}
use Rattle.std.specs.List.{flat_map}
use Rattle.aig_names.specs.Signals.{columns, section_names}
use Rattle.aig_names.specs.Vectors.{turned}
use Rattle.aig_names.specs.state.Naming.{named, entry_names, size_left}
use Rattle.aig_names.proofs.signals.signals_of.Given as goal

abbrev pub invariant-columns : goal.invariant-columns
invariant-columns l =
    map named l.signals.items ++ flat_map turned (columns (map entry_names l.entries.items))
    ≡ section_names l.symbols l.section.kind l.section.first l.section.count

abbrev pub decreases-columns : goal.decreases-columns
decreases-columns l = size_left l.entries.items
