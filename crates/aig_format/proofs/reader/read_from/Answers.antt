use Rattle.std.proofs.Common.{◌≡◌, Err, ap, ◌∙◌}
use Rattle.std.proofs.lemmas.Result.{err_from_is_err_and}
use Rattle.aig_parts.specs.declared.fault.Fault.TheVariants as faults
use Rattle.aig_format.proofs.reader.read_from.Goals as goal

pub returns-clause-answers : goal.returns-clause-answers
returns-clause-answers g c = λ bytes is other. c.in_ok-circuit.ensures.answers bytes is (λ failed. cc)

pub returns-in_err-circuit-clause-answers : goal.returns-in_err-circuit-clause-answers
returns-in_err-circuit-clause-answers g c = λ bytes is other.
    let fault = c.in_err-circuit.field-0.0 in
    let p = err_from_is_err_and c.from_residual.result c.from_residual.ensures.1 in
    rw (p.1, p.2)
    (c.in_err-circuit.ensures.answers bytes is (λ failed.
    let io : fault ≡ faults.Io = cc in other (p.1 ∙ ap Err (p.2 ∙ io))))
