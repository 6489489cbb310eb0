use Rattle.std.proofs.Common.{Ok, refl}
use Rattle.aig_shell.specs.declared.talk.conversation.AfterLine.TheVariants.{GoesOn}
use Rattle.aig_shell.proofs.lines.Lines.{request_is, query_answered, query_refused, edit_answered, edit_refused}
use Rattle.aig_shell.proofs.lines.Lines.{export_answered, export_refused, quit_answered, quit_refused}
use Rattle.aig_shell.proofs.talk.conversation.Conversation.do_command.Goals as goal

pub returns-in_ok-ask-in-Query : goal.returns-in_ok-ask-in-Query
returns-in_ok-ask-in-Query g c =
    request_is c.args.self.now (record c.args.self.now { text = c.ask.new.text }) c.args.has_warned c.args.command _ (Ok GoesOn)
    (g.K.Keep.calls c.args.files.now) (g.K.Keep.calls c.args.files.now) c.in-Query.is
    (query_answered c.args.self.now (record c.args.self.now { text = c.ask.new.text }) c.args.has_warned c.in-Query.query (g.K.Keep.calls c.args.files.now)
    refl c.requires.calm c.in_ok-ask-in-Query.ensures)

pub returns-in_err-ask-in-Query : goal.returns-in_err-ask-in-Query
returns-in_err-ask-in-Query g c =
    request_is c.args.self.now (record c.args.self.now { text = c.ask.new.text }) c.args.has_warned c.args.command _ c.from_residual.result
    (g.K.Keep.calls c.args.files.now) (g.K.Keep.calls c.args.files.now) c.in-Query.is
    (query_refused c.args.self.now (record c.args.self.now { text = c.ask.new.text }) c.args.has_warned c.in-Query.query (g.K.Keep.calls c.args.files.now)
    c.from_residual.result c.in_err-ask-in-Query.field-0.0 refl c.requires.calm c.from_residual.ensures.1
    c.in_err-ask-in-Query.ensures)

pub returns-in_ok-edit-in-Edit : goal.returns-in_ok-edit-in-Edit
returns-in_ok-edit-in-Edit g c =
    request_is c.args.self.now (record c.args.self.now { session = c.edit.new.self; text = c.edit.new.text }) c.args.has_warned c.args.command _ (Ok GoesOn)
    (g.K.Keep.calls c.args.files.now) (g.K.Keep.calls c.args.files.now) c.in-Edit.is
    (edit_answered c.args.self.now (record c.args.self.now { session = c.edit.new.self; text = c.edit.new.text }) c.args.has_warned c.in-Edit.edit (g.K.Keep.calls c.args.files.now)
    c.requires.calm c.in_ok-edit-in-Edit.ensures)

pub returns-in_err-edit-in-Edit : goal.returns-in_err-edit-in-Edit
returns-in_err-edit-in-Edit g c =
    request_is c.args.self.now (record c.args.self.now { session = c.edit.new.self; text = c.edit.new.text }) c.args.has_warned c.args.command _ c.from_residual-in_err-edit-in-Edit.result
    (g.K.Keep.calls c.args.files.now) (g.K.Keep.calls c.args.files.now) c.in-Edit.is
    (edit_refused c.args.self.now (record c.args.self.now { session = c.edit.new.self; text = c.edit.new.text }) c.args.has_warned c.in-Edit.edit (g.K.Keep.calls c.args.files.now)
    c.from_residual-in_err-edit-in-Edit.result c.in_err-edit-in-Edit.field-0.0 c.requires.calm
    c.from_residual-in_err-edit-in-Edit.ensures.1 c.in_err-edit-in-Edit.ensures)

pub returns-in_ok-export-in-Export : goal.returns-in_ok-export-in-Export
returns-in_ok-export-in-Export g c =
    request_is c.args.self.now (record c.args.self.now { session = c.export.new.self; text = c.export.new.text }) c.args.has_warned c.args.command _ (Ok GoesOn)
    (g.K.Keep.calls c.args.files.now) (g.K.Keep.calls c.export.new.files) c.in-Export.is
    (export_answered c.args.self.now (record c.args.self.now { session = c.export.new.self; text = c.export.new.text }) c.args.has_warned c.in-Export.export (g.K.Keep.calls c.args.files.now)
    (g.K.Keep.calls c.export.new.files) c.requires.calm c.in_ok-export-in-Export.ensures)

pub returns-in_err-export-in-Export : goal.returns-in_err-export-in-Export
returns-in_err-export-in-Export g c =
    request_is c.args.self.now (record c.args.self.now { session = c.export.new.self; text = c.export.new.text }) c.args.has_warned c.args.command _ c.from_residual-in_err-export-in-Export.result
    (g.K.Keep.calls c.args.files.now) (g.K.Keep.calls c.export.new.files) c.in-Export.is
    (export_refused c.args.self.now (record c.args.self.now { session = c.export.new.self; text = c.export.new.text }) c.args.has_warned c.in-Export.export (g.K.Keep.calls c.args.files.now)
    (g.K.Keep.calls c.export.new.files) c.from_residual-in_err-export-in-Export.result c.in_err-export-in-Export.field-0.0 c.requires.calm
    c.from_residual-in_err-export-in-Export.ensures.1 c.in_err-export-in-Export.ensures)

pub returns-in_ok-quit-in-Quit : goal.returns-in_ok-quit-in-Quit
returns-in_ok-quit-in-Quit g c =
    request_is c.args.self.now c.quit.new.self c.args.has_warned c.args.command _ (Ok c.in_ok-quit-in-Quit.field-0)
    (g.K.Keep.calls c.args.files.now) (g.K.Keep.calls c.args.files.now) c.in-Quit.is
    (quit_answered c.args.self.now c.quit.new.self c.args.has_warned (g.K.Keep.calls c.args.files.now) c.in_ok-quit-in-Quit.field-0
    c.in_ok-quit-in-Quit.ensures)

pub returns-in_err-quit-in-Quit : goal.returns-in_err-quit-in-Quit
returns-in_err-quit-in-Quit g c =
    request_is c.args.self.now c.quit.new.self c.args.has_warned c.args.command _ c.from_residual-in_err-quit-in-Quit.result
    (g.K.Keep.calls c.args.files.now) (g.K.Keep.calls c.args.files.now) c.in-Quit.is
    (quit_refused c.args.self.now c.quit.new.self c.args.has_warned (g.K.Keep.calls c.args.files.now) c.from_residual-in_err-quit-in-Quit.result
    c.from_residual-in_err-quit-in-Quit.ensures.1 c.in_err-quit-in-Quit.ensures)
