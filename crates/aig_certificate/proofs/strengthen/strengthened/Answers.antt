use Rattle.std.proofs.Common.{◌≡◌, Some, slice_get, sym, subst, ◌∙◌}
use Rattle.std.proofs.lemmas.Option.{slice_get_within}
use Rattle.std.proofs.lemmas.Result.{err_from_is_err_and, IfOk-weaker, IfErr-weaker, on_ok_weaker}
use Rattle.aig_parts.specs.declared.raw.Raw.{Raw}
use Rattle.aig_certificate.specs.Strengthened.{IsStrengthened}
use Rattle.aig_certificate.proofs.Extensions.{extends}
use Rattle.aig_certificate.proofs.Refusals.{refuses_circuit, refuses_parts, refuses_reading}
use Rattle.aig_certificate.proofs.strengthen.strengthened.Goals as goal

pub parts-requires-clause-bad : goal.parts-requires-clause-bad
parts-requires-clause-bad c = sym c.bad_at.ensures ∙ c.in-Some.is

pub returns-in_err-shared-clause-refused : goal.returns-in_err-shared-clause-refused
returns-in_err-shared-clause-refused c =
    let p = err_from_is_err_and c.from_residual.result c.from_residual.ensures.1 in
    rw (p.1, p.2) (refuses_reading c.args.model.now c.args.property c.args.certificate.now c.in_err-shared.field-0.0
    c.in_err-shared.ensures.refused)

pub returns-in_err-parts-clause-refused : goal.returns-in_err-parts-clause-refused
returns-in_err-parts-clause-refused c =
    let p = err_from_is_err_and c.from_residual-in_err-parts.result c.from_residual-in_err-parts.ensures.1 in
    rw (p.1, p.2) (refuses_parts c.args.model.now c.args.property c.args.certificate.now c.in_ok-shared.ensures.readable
    c.in_err-parts.field-0.0 c.in_err-parts.ensures.refused)

pub returns-clause-strengthened : goal.returns-clause-strengthened
returns-clause-strengthened c =
    IfOk-weaker c.circuit_of.result _ _
    (λ (x : Raw) e. subst (IsStrengthened c.args.model.now c.args.property c.args.certificate.now) (sym e) c.in_ok-parts.ensures.parts)
    c.circuit_of.ensures.parts

pub returns-clause-extension : goal.returns-clause-extension
returns-clause-extension c =
    IfOk-weaker c.circuit_of.result _ _
    (λ (x : Raw) e. extends c.args.model.now c.args.property c.args.certificate.now x
    (subst (IsStrengthened c.args.model.now c.args.property c.args.certificate.now) (sym e) c.in_ok-parts.ensures.parts))
    c.circuit_of.ensures.parts

pub returns-clause-accepted : goal.returns-clause-accepted
returns-clause-accepted c =
    let at : slice_get c.args.model.now.bad c.args.property ≡ Some c.in-Some.bad = sym c.bad_at.ensures ∙ c.in-Some.is in
    on_ok_weaker c.circuit_of.result (λ formed. record {
      readable = c.in_ok-shared.ensures.readable;
      property = slice_get_within c.args.model.now.bad c.args.property c.in-Some.bad at;
      limits = (c.in_ok-parts.parts, c.in_ok-parts.ensures.parts, formed);
    }) c.circuit_of.ensures.formed

pub returns-clause-refused : goal.returns-clause-refused
returns-clause-refused c =
    IfErr-weaker c.circuit_of.result _ _
    (refuses_circuit c.args.model.now c.args.property c.args.certificate.now c.in_ok-shared.ensures.readable c.in_ok-parts.parts
    c.in_ok-parts.ensures.parts)
    c.circuit_of.ensures.refused
