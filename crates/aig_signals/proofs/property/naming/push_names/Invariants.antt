use Rattle.aig_base.specs.Selected.{kind_of}
use Rattle.aig_signals.proofs.NamedEntries.{Naming}
use Rattle.aig_signals.proofs.property.naming.push_names.Given as goal

abbrev pub invariant-loop-position : goal.invariant-loop-position
invariant-loop-position l = Naming (kind_of l.fn.section) l.text l.initial.list l.list l.rest l.position
