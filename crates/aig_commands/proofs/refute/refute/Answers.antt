use Rattle.std.proofs.Common.{◌≡◌, ◌+◌, ap, ◌∙◌, sym}
use Rattle.aig_bytes.specs.Flow.{flow}
use Rattle.aig_sat.specs.declared.proof.fault.ProofFault.TheVariants as faults
use Rattle.aig_command.specs.declared.run_fault.RunFault.TheVariants as run_faults
use Rattle.aig_commands.specs.Questions.{Says, asked_of}
use Rattle.aig_commands.specs.Refute.{proof_reads_failed, step_reads_failed}
use Rattle.aig_commands.proofs.Certificates.{good_answer}
use Rattle.aig_commands.proofs.Questions.{answer_printed, answered_question, line_of}
use Rattle.aig_commands.proofs.Refutations.{answer_is, fault_is}
use Rattle.aig_commands.proofs.refute.refute.Goals as goal

pub returns-clause-says : goal.returns-clause-says
returns-clause-says g c =
    good_answer (flow g.W.Write.written g.W.Write.failures c.args.out.now c.write_checked.new.out) (line_of c.query_of-query.result)
    c.read_and_check-checked.result c.write_checked.result (Says (asked_of c.args.question) c.args.file.now)
    c.read_and_check-checked.ensures.says c.write_checked.ensures.ends

pub returns-clause-printed : goal.returns-clause-printed
returns-clause-printed g c =
    answer_printed g.W.Write.written g.W.Write.failures c.args.out.now c.write_checked.new.out (asked_of c.args.question)
    c.args.file.now c.query_of-query.result c.query_of-query.ensures c.read_and_check-checked.result c.write_checked.result
    c.read_and_check-checked.ensures.says c.write_checked.ensures.none c.write_checked.ensures.ends

pub returns-clause-ends : goal.returns-clause-ends
returns-clause-ends g c =
    answered_question (asked_of c.args.question) c.args.file.now (flow g.W.Write.written g.W.Write.failures c.args.out.now c.write_checked.new.out)
    c.query_of-query.result c.query_of-query.ensures c.read_and_check-checked.result c.write_checked.result c.read_and_check-checked.ensures.checks
    c.write_checked.ensures.ends

pub returns-clause-reads : goal.returns-clause-reads
returns-clause-reads g c = λ other.
    c.read_and_check-checked.ensures.reads.reads ∙ ap (λ r. g.R.Read.failures c.args.proofs.now.proof + proof_reads_failed r)
    (sym (answer_is (flow g.W.Write.written g.W.Write.failures c.args.out.now c.write_checked.new.out) (line_of c.query_of-query.result)
    c.read_and_check-checked.result c.write_checked.result c.write_checked.ensures.ends other))

pub returns-clause-reads_step : goal.returns-clause-reads_step
returns-clause-reads_step g c = λ other.
    c.read_and_check-checked.ensures.reads.reads_step ∙ ap (λ r. g.S.Read.failures c.args.proofs.now.step + step_reads_failed r)
    (sym (answer_is (flow g.W.Write.written g.W.Write.failures c.args.out.now c.write_checked.new.out) (line_of c.query_of-query.result)
    c.read_and_check-checked.result c.write_checked.result c.write_checked.ensures.ends other))

pub returns-clause-whole : goal.returns-clause-whole
returns-clause-whole g c = λ is.
    c.read_and_check-checked.ensures.reads.whole
    (fault_is (flow g.W.Write.written g.W.Write.failures c.args.out.now c.write_checked.new.out) (line_of c.query_of-query.result)
    c.read_and_check-checked.result c.write_checked.result (run_faults.Proof faults.NoRefutation) c.write_checked.ensures.ends
    (λ e. let never : ⊥ = cc in never) is)

pub returns-clause-whole_step : goal.returns-clause-whole_step
returns-clause-whole_step g c = λ is.
    c.read_and_check-checked.ensures.reads.whole_step
    (fault_is (flow g.W.Write.written g.W.Write.failures c.args.out.now c.write_checked.new.out) (line_of c.query_of-query.result)
    c.read_and_check-checked.result c.write_checked.result (run_faults.StepProof faults.NoRefutation) c.write_checked.ensures.ends
    (λ e. let never : ⊥ = cc in never) is)

pub returns-clause-named : goal.returns-clause-named
returns-clause-named g c = λ n is.
    c.read_and_check-checked.ensures.reads.named n
    (fault_is (flow g.W.Write.written g.W.Write.failures c.args.out.now c.write_checked.new.out) (line_of c.query_of-query.result)
    c.read_and_check-checked.result c.write_checked.result (run_faults.Proof (faults.Step n)) c.write_checked.ensures.ends
    (λ e. let never : ⊥ = cc in never) is)

pub returns-clause-named_step : goal.returns-clause-named_step
returns-clause-named_step g c = λ n is.
    c.read_and_check-checked.ensures.reads.named_step n
    (fault_is (flow g.W.Write.written g.W.Write.failures c.args.out.now c.write_checked.new.out) (line_of c.query_of-query.result)
    c.read_and_check-checked.result c.write_checked.result (run_faults.StepProof (faults.Step n)) c.write_checked.ensures.ends
    (λ e. let never : ⊥ = cc in never) is)
