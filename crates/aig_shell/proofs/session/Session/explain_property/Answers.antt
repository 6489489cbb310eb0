use Rattle.std.proofs.Common.{All, subst}
use Rattle.aig_parts.specs.Literal.{variable}
use Rattle.aig_parts.specs.declared.raw.Raw.{Raw}
use Rattle.aig_base.specs.Sections.{IsDefined}
use Rattle.aig_shell.specs.Request.{why_first}
use Rattle.aig_shell.proofs.explained.Asking.{none_reached, property_answered, query_err, query_memory}
use Rattle.aig_shell.proofs.session.Session.explain_property.Goals as goal

pub returns-in_err-reached : goal.returns-in_err-reached
returns-in_err-reached c =
    query_err c.args.self.now why_first _ _ c.in_err-reached.field-0.0 c.from_residual.ensures.1
    (λ other s h. none_reached c.args.self.now s h (c.in_err-reached.ensures.err other))

pub returns-in_err-question : goal.returns-in_err-question
returns-in_err-question c = query_memory c.args.self.now why_first _ _ c.from_residual-in_err-question.ensures.1

pub returns-in_err-push_explanation : goal.returns-in_err-push_explanation
returns-in_err-push_explanation c = query_memory c.args.self.now why_first _ _ c.from_residual-in_err-push_explanation.ensures.1

pub returns : goal.returns
returns c = λ s h.
    property_answered c.args.self.now s h c.in_ok-question.question.name c.in_ok-question.question.literals c.in_ok-reached.reached.frame
    c.in_ok-reached.reached.property _ c.in_ok-reached.ensures.ok (rw c.circuit.ensures at c.in_ok-question.ensures.question)
    c.in_ok-push_explanation.ensures

pub push_explanation-requires-clause-defined : goal.push_explanation-requires-clause-defined
push_explanation-requires-clause-defined c =
    subst (λ (raw : Raw). All (λ l. IsDefined raw (variable l)) c.in_ok-question.question.literals) c.circuit.ensures
    c.in_ok-question.ensures.defined
