use Rattle.aig_signals.proofs.NamedEntries.{Keeping}
use Rattle.aig_signals.proofs.property.naming.other_symbols.Given as goal

abbrev pub invariant-loop-entry : goal.invariant-loop-entry
invariant-loop-entry l = Keeping l.section l.circuit.symbols l.list l.entry-iterator
