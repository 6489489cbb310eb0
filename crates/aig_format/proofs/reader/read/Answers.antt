use Rattle.std.proofs.Common.{◌≡◌, Err, ap}
use Rattle.std.proofs.lemmas.Result.{err_from_is_err_and}
use Rattle.aig_parts.specs.declared.fault.Fault.TheVariants as faults
use Rattle.aig_format.proofs.Verdicts.{never_io}
use Rattle.aig_format.proofs.reader.read.Goals as goal

pub returns-clause-answers : goal.returns-clause-answers
returns-clause-answers c = rw c.new-source.ensures at (c.in_ok-circuit.ensures.answers tt (λ is. cc))

pub returns-in_err-circuit-clause-answers : goal.returns-in_err-circuit-clause-answers
returns-in_err-circuit-clause-answers c =
    let fault = c.in_err-circuit.field-0.0 in
    let p = err_from_is_err_and c.from_residual.result c.from_residual.ensures.1 in
    rw (p.1, p.2)
    (rw c.new-source.ensures at (c.in_err-circuit.ensures.answers tt (λ is.
    let io : fault ≡ faults.Io = cc in never_io (Err fault) 0 c.in_err-circuit.ensures.failures (ap Err io))))
