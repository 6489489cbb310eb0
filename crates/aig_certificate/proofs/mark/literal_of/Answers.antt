use Rattle.std.proofs.Common.{◌≡◌, subst, sym, ◌∙◌, arith}
use Rattle.std.proofs.lemmas.Bool.{false≢true}
use Rattle.std.proofs.lemmas.Option.{none-some, same_Some}
use Rattle.aig_parts.specs.Literal.{variable}
use Rattle.aig_base.specs.Sections.{IsDefined}
use Rattle.aig_base.proofs.circuits.Gates.{defined_in_range}
use Rattle.aig_certificate.proofs.mark.literal_of.Goals as goal

pub returns-in_default-clause-none : goal.returns-in_default-clause-none
returns-in_default-clause-none c l defined e =
    let least = defined_in_range c.args.model.now c.facts.ensures.sound (variable l) defined in
    let few = c.facts.ensures.formed.counts.max_var in
    none-some l (sym c.in_default.is ∙ c.number_of.ensures.only l (omega (arith, least, few)) e)

pub returns-else-is_defined-clause-none : goal.returns-else-is_defined-clause-none
returns-else-is_defined-clause-none c l defined e =
    let least = defined_in_range c.args.model.now c.facts.ensures.sound (variable l) defined in
    let few = c.facts.ensures.formed.counts.max_var in
    let same : c.in-Some.number ≡ l =
    same_Some c.in-Some.number l (sym c.in-Some.is ∙ c.number_of.ensures.only l (omega (arith, least, few)) e) in
    let here : IsDefined c.args.model.now (variable c.new-literal.result) =
    subst (λ n. IsDefined c.args.model.now (variable n)) (sym (c.new-literal.ensures ∙ same)) defined in
    false≢true (sym c.if-is_defined.false ∙ c.is_defined.ensures.1 here)
