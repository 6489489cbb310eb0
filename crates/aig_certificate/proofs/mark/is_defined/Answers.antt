use Rattle.std.proofs.Common.{refl, subst}
use Rattle.aig_base.specs.Sections.{IsDefined}
use Rattle.aig_base.proofs.circuits.Gates.{defined_from_definition}
use Rattle.aig_certificate.proofs.mark.is_defined.Goals as goal

pub returns-in-Some : goal.returns-in-Some
returns-in-Some c = (
  λ _. subst (λ v. IsDefined c.args.model.now v) c.var.ensures
      (defined_from_definition c.args.model.now c.var.result c.in-Some.field-0 c.in-Some.ensures.found),
  λ _. refl,
)
