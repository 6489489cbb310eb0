use Rattle.std.proofs.Common.{Ok, Err}
use Rattle.std.proofs.lemmas.Result.{err_from_is_err_and}
use Rattle.aig_format.proofs.Verdicts.{err_reading, failed_other, ok_found, ok_reading}
use Rattle.aig_format.proofs.reader.circuit_with_format.Goals as goal

pub returns-in_err-format-clause-answers : goal.returns-in_err-format-clause-answers
returns-in_err-format-clause-answers g c = λ reported other.
    let p = err_from_is_err_and c.from_residual.result c.from_residual.ensures.1 in
    rw (p.1, p.2)
    (err_reading (g.S.Source.left c.args.s.now) c.in_err-format.field-0.0 (c.in_err-format.ensures.bytes reported)
    (failed_other c.in_err-format.field-0.0 (rw (p.1, p.2) at other)))

pub returns-in_err-circuit-clause-answers : goal.returns-in_err-circuit-clause-answers
returns-in_err-circuit-clause-answers g c = λ reported other.
    let p = err_from_is_err_and c.from_residual-in_err-circuit.result c.from_residual-in_err-circuit.ensures.1 in
    rw (p.1, p.2)
    (ok_reading (g.S.Source.left c.args.s.now) c.in_ok-format.raw (Err c.in_err-circuit.field-0.0)
    (c.in_ok-format.ensures.bytes reported) tt c.in_err-circuit.ensures.fault)

pub returns-clause-answers : goal.returns-clause-answers
returns-clause-answers g c = λ reported other.
    ok_reading (g.S.Source.left c.args.s.now) c.in_ok-format.raw (Ok c.in_ok-circuit.circuit)
    (c.in_ok-format.ensures.bytes reported) c.in_ok-circuit.ensures.parts tt

pub returns-clause-format : goal.returns-clause-format
returns-clause-format g c = λ reported.
    c.in_ok-format.ensures.format reported c.in_ok-circuit.circuit
    (ok_found (g.S.Source.left c.args.s.now) c.in_ok-format.raw (Ok c.in_ok-circuit.circuit)
    (c.in_ok-format.ensures.bytes reported) c.in_ok-circuit.ensures.parts)
