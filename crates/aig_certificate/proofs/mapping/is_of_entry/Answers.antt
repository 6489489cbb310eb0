use Rattle.std.proofs.Common.{◌↔◌, Bool, IsTrue, sym, subst}
use Rattle.aig_certificate.specs.Mapping.{IsOfEntry}
use Rattle.aig_certificate.proofs.MappingLines.{entry_answer}
use Rattle.aig_certificate.proofs.mapping.is_of_entry.Goals as goal

pub returns : goal.returns
returns c =
    subst (λ (b : Bool). IsTrue b ↔ IsOfEntry c.args.certificate.now c.args.literal) (sym c.is_source.ensures)
    (entry_answer c.args.certificate.now c.facts.ensures.sound c.args.literal c.var.result c.definition.result c.var.ensures
    c.definition.ensures.found c.definition.ensures.none)
