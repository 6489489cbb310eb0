use Rattle.std.proofs.Common.{[], Ok, refl}
use Rattle.aig_bytes.specs.Flow.{flow}
use Rattle.aig_command.specs.Command.{CommandEnds}
use Rattle.aig_command.specs.declared.run_fault.RunFault.TheVariants as run_faults
use Rattle.aig_command.proofs.Files.{answered}
use Rattle.aig_command.proofs.Written.{got_all, got_none, got_part}
use Rattle.aig_commands.specs.CheckAlive.{ChecksRun, alive_text}
use Rattle.aig_commands.proofs.Printed.{alive_printed, holds_alive, none_printed}
use Rattle.aig_commands.proofs.alive.find_and_write.Goals as goal

pub returns-in-Ok-clause-ends : goal.returns-in-Ok-clause-ends
returns-in-Ok-clause-ends g c =
    let answer = c.in_ok-answer.answer in
    CommandEnds.writes_all (alive_text answer) (c.in_ok-answer.ensures.shown, refl)
    (got_all g.W.Write.written g.W.Write.failures c.args.out.now c.write_answer.new.out (alive_text answer) tt c.in-Ok.ensures)

pub returns-in-Err-clause-ends : goal.returns-in-Err-clause-ends
returns-in-Err-clause-ends g c =
    let answer = c.in_ok-answer.answer in
    CommandEnds.breaks_off (Ok answer) (alive_text answer) (c.in_ok-answer.ensures.shown, refl)
    (got_part g.W.Write.written g.W.Write.failures c.args.out.now c.write_answer.new.out (alive_text answer) _ c.in-Err.ensures)

pub returns-in_err-answer-clause-ends : goal.returns-in_err-answer-clause-ends
returns-in_err-answer-clause-ends g c =
    answered c.from_residual.result (run_faults.Witness c.in_err-answer.field-0.0)
    (CommandEnds (flow g.W.Write.written g.W.Write.failures c.args.out.now c.args.out.now) run_faults.Output
    (ChecksRun c.args.frames c.args.witness.now c.args.circuit.now))
    c.from_residual.ensures.1
    (CommandEnds.writes_all [] (c.in_err-answer.ensures.fault, refl) (got_none g.W.Write.written g.W.Write.failures c.args.out.now))

pub returns-in-Ok-clause-printed : goal.returns-in-Ok-clause-printed
returns-in-Ok-clause-printed g c = λ printed.
    holds_alive c.args.circuit.now c.args.frames c.args.witness.now c.in_ok-answer.answer
    (alive_printed g.W.Write.written g.W.Write.failures c.args.out.now c.write_answer.new.out c.in_ok-answer.answer _ c.in-Ok.ensures printed)
    c.in_ok-answer.ensures.shown

pub returns-in-Err-clause-printed : goal.returns-in-Err-clause-printed
returns-in-Err-clause-printed g c = λ printed.
    holds_alive c.args.circuit.now c.args.frames c.args.witness.now c.in_ok-answer.answer
    (alive_printed g.W.Write.written g.W.Write.failures c.args.out.now c.write_answer.new.out c.in_ok-answer.answer _ c.in-Err.ensures printed)
    c.in_ok-answer.ensures.shown

pub returns-in_err-answer-clause-printed : goal.returns-in_err-answer-clause-printed
returns-in_err-answer-clause-printed g c = λ printed. absurd (none_printed (g.W.Write.written c.args.out.now) _ _ printed)
