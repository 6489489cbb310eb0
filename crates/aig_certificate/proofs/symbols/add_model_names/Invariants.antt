use Rattle.aig_certificate.specs.Strengthened.{model_entry}
use Rattle.aig_certificate.proofs.Naming.{Naming}
use Rattle.aig_certificate.proofs.symbols.add_model_names.Given as goal

abbrev pub invariant-loop-entry : goal.invariant-loop-entry
invariant-loop-entry l = Naming (model_entry l.property) l.initial.list l.model.symbols l.list l.entry-iterator
