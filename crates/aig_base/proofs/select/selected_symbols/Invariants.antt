use Rattle.aig_base.proofs.selections.Walks.{Sorted}
use Rattle.aig_base.proofs.select.selected_symbols.Given as goal

abbrev pub invariant-loop-entry : goal.invariant-loop-entry
invariant-loop-entry l = Sorted l.kept.from l.kept.into l.positions l.circuit.symbols l.list l.entry-iterator
