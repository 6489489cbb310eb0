use Rattle.std.proofs.Common.{inr}
use Rattle.aig_commands.specs.Questions.{asked_of, certificate_of}
use Rattle.aig_commands.proofs.Questions.{of_files, reads_none, says_of}
use Rattle.aig_commands.proofs.refute.read_and_check.Goals as goal

pub returns-clause-checks : goal.returns-clause-checks
returns-clause-checks g c = inr (c.in_ok-circuit.circuit, c.in_ok-circuit.ensures.about, c.check_question.ensures.checks)

pub returns-clause-says : goal.returns-clause-says
returns-clause-says g c =
    says_of (asked_of c.args.question) c.args.file.now c.in_ok-circuit.circuit c.facts.ensures c.in_ok-circuit.ensures.about
    c.check_question.result c.check_question.ensures.checks

pub returns-in_err-circuit-clause-reads : goal.returns-in_err-circuit-clause-reads
returns-in_err-circuit-clause-reads g c =
    let part = c.in_err-circuit.field-0.0 in
    reads_none c.args.proofs.now part
    (of_files (certificate_of (asked_of c.args.question)) c.args.file.now part c.in_err-circuit.ensures.refused) c.from_residual.result
    c.from_residual.ensures.1
