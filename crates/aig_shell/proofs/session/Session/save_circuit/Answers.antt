use Rattle.std.proofs.Common.{[], None, ◌∙◌}
use Rattle.aig_shell.specs.Request.{save}
use Rattle.aig_shell.proofs.saved.Saved.{circuit_saved, files_kept, files_refused}
use Rattle.aig_shell.proofs.session.Session.save_circuit.Goals as goal

pub returns-in_err-keep : goal.returns-in_err-keep
returns-in_err-keep g c =
    files_refused c.args.self.now (save c.args.name.now None) (Unit {0}) [] [] _ (g.K.Keep.calls c.args.files.now)
    (g.K.Keep.calls c.keep.new.files) c.from_residual-in_err-keep.result c.in_err-keep.field-0.0
    (record { name = c.args.name.now; text = c.as_slice.result.now }) [] c.from_residual-in_err-keep.ensures.1
    c.in_err-keep.ensures.refused
    (circuit_saved c.args.self.now c.args.name.now c.as_slice.result.now
    (c.as_slice.ensures.value ∙ c.in_ok-circuit.ensures))
    c.in_err-keep.ensures.calls

pub returns : goal.returns
returns g c = λ s h.
    let (texts, after, answers, is, some, got) =
    files_kept c.args.self.now (save c.args.name.now None) [] _ (g.K.Keep.calls c.args.files.now)
    (g.K.Keep.calls c.keep.new.files) tt (record { name = c.args.name.now; text = c.as_slice.result.now }) []
    (circuit_saved c.args.self.now c.args.name.now c.as_slice.result.now
    (c.as_slice.ensures.value ∙ c.in_ok-circuit.ensures))
    c.in_ok-keep.ensures.calls s h in
    -- the session after it has new proofs of its ghost fields
    (texts, after, answers, record { pair = is.pair; latches = is.latches; property = is.property; first = is.first; entries = is.entries; start = is.start; rows = is.rows; circuit = is.circuit }, some, got)
