use Rattle.std.proofs.Common.{ℕ, List, [], ◌++◌, refl, ap, ◌∙◌}
use Rattle.std.specs.Prelude.{option_map}
use Rattle.aig_shell.specs.Files.{reached_text}
use Rattle.aig_shell.specs.Request as request
use Rattle.aig_shell.proofs.saved.Saved.{files_denied, files_kept, files_refused, no_property, no_witness}
use Rattle.aig_shell.proofs.saved.Saved.{witness_saved}
use Rattle.aig_shell.proofs.session.Session.witness.Goals as goal

pub returns-in_err-asked : goal.returns-in_err-asked
returns-in_err-asked g c =
    let word = option_map (λ w. w.now) c.args.property in
    files_denied c.args.self.now (request.witness c.args.name.now word) _ (g.K.Keep.calls c.args.files.now)
    c.from_residual.result c.in_err-asked.field-0.0 c.from_residual.ensures.1
    (λ other. no_property c.args.self.now c.args.name.now word (c.in_err-asked.ensures.err other))

pub returns-in_err-reached : goal.returns-in_err-reached
returns-in_err-reached g c =
    let word = option_map (λ w. w.now) c.args.property in
    files_denied c.args.self.now (request.witness c.args.name.now word) _ (g.K.Keep.calls c.args.files.now)
    c.from_residual-in_err-reached.result c.in_err-reached.field-0.0 c.from_residual-in_err-reached.ensures.1
    (λ other. no_witness c.args.self.now c.args.name.now word c.in_ok-asked.asked c.in_ok-asked.ensures.asked
    (c.in_err-reached.ensures.err other))

pub returns-in_err-keep : goal.returns-in_err-keep
returns-in_err-keep g c =
    let word = option_map (λ w. w.now) c.args.property in
    let reached = c.in_ok-reached.reached in
    let said = reached_text reached.property reached.frame c.args.name.now in
    files_refused c.args.self.now (request.witness c.args.name.now word) (Unit {0}) _ said _
    (g.K.Keep.calls c.args.files.now) (g.K.Keep.calls c.keep.new.files) c.from_residual-in_err-keep.result
    c.in_err-keep.field-0.0
    (record { name = c.args.name.now; text = c.as_slice.result.now }) [] c.from_residual-in_err-keep.ensures.1
    c.in_err-keep.ensures.refused
    (witness_saved c.args.self.now c.args.name.now word c.as_slice.result.now said c.in_ok-asked.asked
    reached.frame reached.property c.in_ok-run.run' c.in_ok-asked.ensures.asked c.in_ok-reached.ensures.ok
    (c.as_slice.ensures.value ∙ c.in_ok-witness.ensures) (rw c.bench.ensures at c.in_ok-run.ensures) refl)
    c.in_err-keep.ensures.calls

pub returns : goal.returns
returns g c = λ s h.
    let word = option_map (λ w. w.now) c.args.property in
    let reached = c.in_ok-reached.reached in
    let (texts, after, answers, is, some, got) =
    files_kept c.args.self.now (request.witness c.args.name.now word) c.push_reached.new.text.items _
    (g.K.Keep.calls c.args.files.now) (g.K.Keep.calls c.keep.new.files) tt
    (record { name = c.args.name.now; text = c.as_slice.result.now }) []
    (witness_saved c.args.self.now c.args.name.now word c.as_slice.result.now
    c.push_reached.new.text.items c.in_ok-asked.asked reached.frame reached.property
    c.in_ok-run.run' c.in_ok-asked.ensures.asked c.in_ok-reached.ensures.ok
    (c.as_slice.ensures.value ∙ c.in_ok-witness.ensures) (rw c.bench.ensures at c.in_ok-run.ensures)
    (c.in_ok-push_reached.ensures
    ∙ ap (λ (z : List ℕ). z ++ reached_text reached.property reached.frame c.args.name.now) c.requires.empty))
    c.in_ok-keep.ensures.calls s h in
    -- the session after it has new proofs of its ghost fields
    (texts, after, answers, record { pair = is.pair; latches = is.latches; property = is.property; first = is.first; entries = is.entries; start = is.start; rows = is.rows; circuit = is.circuit }, some, got)
