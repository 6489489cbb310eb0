use Rattle.aig_base.specs.Selected.{kind_of}
use Rattle.aig_signals.proofs.PropertyLookups.{Looking}
use Rattle.aig_signals.proofs.property.lookup.position_named.Given as goal

abbrev pub invariant-loop-entry : goal.invariant-loop-entry
invariant-loop-entry l = Looking (kind_of l.fn.section) l.name l.circuit.symbols l.found l.entry-iterator
