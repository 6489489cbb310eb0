use Rattle.std.proofs.Common.{refl, ◌∙◌}
use Rattle.aig_shell.proofs.lines.Lines.{line_answered, line_lacking, line_refused, refusal_lacking}
use Rattle.aig_shell.proofs.talk.conversation.Conversation.make_answer.Goals as goal

pub returns-in_err-line-clause-memory : goal.returns-in_err-line-clause-memory
returns-in_err-line-clause-memory g c =
    line_lacking c.args.self.now (record c.args.self.now { text = c.clear.new.self }) c.args.line.now (g.K.Keep.calls c.args.files.now)
    c.from_residual.result refl refl

pub returns-in-Ok-clause-answered : goal.returns-in-Ok-clause-answered
returns-in-Ok-clause-answered g c =
    line_answered c.args.self.now (record c.args.self.now { text = c.clear.new.self }) c.do_line.new.self c.args.line.now c.as_slice.result.now
    c.in-Ok.next (g.K.Keep.calls c.args.files.now) (g.K.Keep.calls c.do_line.new.files) refl refl (c.as_slice.ensures.value ∙ c.in_ok-line.ensures)
    c.in-Ok.ensures

pub returns-in_err-push_refusal-in-Err-clause-memory : goal.returns-in_err-push_refusal-in-Err-clause-memory
returns-in_err-push_refusal-in-Err-clause-memory g c =
    refusal_lacking c.args.self.now (record c.args.self.now { text = c.clear.new.self }) c.do_line.new.self
    (record c.do_line.new.self { text = c.push_refusal.new.text }) c.args.line.now _ c.in-Err.refusal (g.K.Keep.calls c.args.files.now)
    (g.K.Keep.calls c.do_line.new.files) c.from_residual-in_err-push_refusal-in-Err.result refl refl c.in-Err.ensures refl refl

pub returns-clause-answered : goal.returns-clause-answered
returns-clause-answered g c =
    line_refused c.args.self.now (record c.args.self.now { text = c.clear.new.self }) c.do_line.new.self
    (record c.do_line.new.self { text = c.push_refusal.new.text }) c.args.line.now c.as_slice.result.now c.in-Err.refusal
    (g.K.Keep.calls c.args.files.now) (g.K.Keep.calls c.do_line.new.files) refl refl (c.as_slice.ensures.value ∙ c.in_ok-line.ensures)
    c.in-Err.ensures c.in_ok-push_refusal-in-Err.ensures.memory c.in_ok-push_refusal-in-Err.ensures.said refl refl
