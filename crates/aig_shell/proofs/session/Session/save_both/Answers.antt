use Rattle.std.proofs.Common.{ℕ, List, [], ◌∷◌, ◌++◌, Some, refl, sym, ap, ◌∙◌}
use Rattle.std.proofs.lemmas.Bool.{false≢true}
use Rattle.aig_shell.specs.Files.{no_start_text}
use Rattle.aig_shell.specs.Request.{save}
use Rattle.aig_shell.proofs.saved.Saved.{files_kept, files_refused, rows_saved, whole_saved}
use Rattle.aig_shell.proofs.session.Session.save_both.Goals as goal

pub returns-in_err-keep : goal.returns-in_err-keep
returns-in_err-keep g c =
    files_refused c.args.self.now (save c.args.name.now (Some c.args.stimulus.now)) (Unit {0}) _
    (no_start_text c.args.stimulus.now) _ (g.K.Keep.calls c.args.files.now) (g.K.Keep.calls c.keep.new.files) c.from_residual-in_err-keep.result
    c.in_err-keep.field-0.0
    (record { name = c.args.name.now; text = c.as_slice.result.now })
    (record { name = c.args.stimulus.now; text = c.as_slice-2.result.now } ∷ []) c.from_residual-in_err-keep.ensures.1
    c.in_err-keep.ensures.refused
    (rows_saved c.args.self.now c.args.name.now c.as_slice.result.now c.args.stimulus.now c.as_slice-2.result.now
    (no_start_text c.args.stimulus.now) (c.as_slice.ensures.value ∙ c.in_ok-circuit.ensures) (c.as_slice-2.ensures.value ∙ c.in_ok-rows.ensures.text_is)
    (λ e. false≢true (sym c.if-not-starts_by_reset.true ∙ c.starts_by_reset.ensures.1 e)) refl)
    c.in_err-keep.ensures.calls

pub returns-then-not-starts_by_reset : goal.returns-then-not-starts_by_reset
returns-then-not-starts_by_reset g c = λ s h.
    let (texts, after, answers, is, some, got) =
    files_kept c.args.self.now (save c.args.name.now (Some c.args.stimulus.now)) c.push_no_start.new.text.items _
    (g.K.Keep.calls c.args.files.now) (g.K.Keep.calls c.keep.new.files) tt
    (record { name = c.args.name.now; text = c.as_slice.result.now })
    (record { name = c.args.stimulus.now; text = c.as_slice-2.result.now } ∷ [])
    (rows_saved c.args.self.now c.args.name.now c.as_slice.result.now c.args.stimulus.now c.as_slice-2.result.now
    c.push_no_start.new.text.items (c.as_slice.ensures.value ∙ c.in_ok-circuit.ensures)
    (c.as_slice-2.ensures.value ∙ c.in_ok-rows.ensures.text_is)
    (λ e. false≢true (sym c.if-not-starts_by_reset.true ∙ c.starts_by_reset.ensures.1 e))
    (c.in_ok-push_no_start.ensures ∙ ap (λ (z : List ℕ). z ++ no_start_text c.args.stimulus.now) c.requires.empty))
    c.in_ok-keep.ensures.calls s h in
    -- the session after it has new proofs of its ghost fields
    (texts, after, answers, record { pair = is.pair; latches = is.latches; property = is.property; first = is.first; entries = is.entries; start = is.start; rows = is.rows; circuit = is.circuit }, some, got)

pub returns-in_err-keep-2 : goal.returns-in_err-keep-2
returns-in_err-keep-2 g c =
    files_refused c.args.self.now (save c.args.name.now (Some c.args.stimulus.now)) (Unit {0}) _ [] _
    (g.K.Keep.calls c.args.files.now) (g.K.Keep.calls c.keep-2.new.files) c.from_residual-in_err-keep-2.result
    c.in_err-keep-2.field-0.0
    (record { name = c.args.name.now; text = c.as_slice.result.now })
    (record { name = c.args.stimulus.now; text = c.as_slice-2.result.now } ∷ []) c.from_residual-in_err-keep-2.ensures.1
    c.in_err-keep-2.ensures.refused
    (whole_saved c.args.self.now c.args.name.now c.as_slice.result.now c.args.stimulus.now c.as_slice-2.result.now []
    c.in_ok-run.run' (c.as_slice.ensures.value ∙ c.in_ok-circuit.ensures)
    (c.as_slice-2.ensures.value ∙ c.in_ok-rows.ensures.text_is)
    (rw c.bench.ensures at c.in_ok-run.ensures) (c.starts_by_reset.ensures.0 c.if-not-starts_by_reset.false) refl)
    c.in_err-keep-2.ensures.calls

pub returns : goal.returns
returns g c = λ s h.
    let (texts, after, answers, is, some, got) =
    files_kept c.args.self.now (save c.args.name.now (Some c.args.stimulus.now)) c.args.text.now.items _
    (g.K.Keep.calls c.args.files.now) (g.K.Keep.calls c.keep-2.new.files) tt
    (record { name = c.args.name.now; text = c.as_slice.result.now })
    (record { name = c.args.stimulus.now; text = c.as_slice-2.result.now } ∷ [])
    (whole_saved c.args.self.now c.args.name.now c.as_slice.result.now c.args.stimulus.now c.as_slice-2.result.now
    c.args.text.now.items c.in_ok-run.run' (c.as_slice.ensures.value ∙ c.in_ok-circuit.ensures)
    (c.as_slice-2.ensures.value ∙ c.in_ok-rows.ensures.text_is)
    (rw c.bench.ensures at c.in_ok-run.ensures) (c.starts_by_reset.ensures.0 c.if-not-starts_by_reset.false)
    c.requires.empty)
    c.in_ok-keep-2.ensures.calls s h in
    -- the session after it has new proofs of its ghost fields
    (texts, after, answers, record { pair = is.pair; latches = is.latches; property = is.property; first = is.first; entries = is.entries; start = is.start; rows = is.rows; circuit = is.circuit }, some, got)
