use Rattle.aig_certificate.specs.Strengthened.{certificate_entry}
use Rattle.aig_certificate.specs.state.Marks.{meanings_of}
use Rattle.aig_certificate.proofs.Naming.{Naming}
use Rattle.aig_certificate.proofs.symbols.add_certificate_names.Given as goal

abbrev pub invariant-loop-entry : goal.invariant-loop-entry
invariant-loop-entry l =
    Naming (certificate_entry l.names.model.now l.names.certificate.now (meanings_of l.names.shared.now)) l.initial.list
    l.names.certificate.now.symbols l.list l.entry-iterator
