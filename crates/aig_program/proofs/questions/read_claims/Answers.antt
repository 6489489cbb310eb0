use Rattle.std.proofs.Common.{◌≡◌, IfOk, subst, sym, ◌∙◌}
use Rattle.std.specs.Prelude.{IfSome}
use Rattle.aig_program.specs.Questions.{left_of}
use Rattle.aig_program.proofs.questions.read_claims.Goals as goal

pub returns-in-None-clause-whole : goal.returns-in-None-clause-whole
returns-in-None-clause-whole g c =
    subst (λ o. IfSome (left_of g.F.Read.remaining o) (λ left. c.new.result.items ≡ left))
    (sym c.in-None.is ∙ c.certificate.ensures) c.new.ensures.items

pub returns-in-Some-clause-whole : goal.returns-in-Some-clause-whole
returns-in-Some-clause-whole g c =
    subst (λ o. IfOk c.read_whole.result (λ claims. IfSome (left_of g.F.Read.remaining o) (λ left. claims.items ≡ left)))
    (sym c.in-Some.is ∙ c.certificate.ensures) c.read_whole.ensures.whole
