use Rattle.std.proofs.Common.{ℕ, List, IfOk, subst}
use Rattle.aig_program.specs.Chosen.{NamesProperty}
use Rattle.aig_program.proofs.chosen.properties.open_circuit_and_property.Goals as goal

pub returns-clause-named : goal.returns-clause-named
returns-clause-named g c =
    subst (λ (text : List ℕ). IfOk c.open_circuit_for.result (λ r. NamesProperty text r.0 r.1)) c.property_text.ensures.held
    c.open_circuit_for.ensures.named
