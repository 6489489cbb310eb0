use Rattle.std.proofs.Common.{◌∷◌, ◌++◌, [], ap, sym, ◌∙◌}
use Rattle.std.proofs.lemmas.Bool.{false≢true}
use Rattle.aig_script.specs.ScriptLine.{ScriptLine, first_bytes}
use Rattle.aig_script.proofs.ScriptLines.{joins_within, joins_past, begins_with, keeps_bytes, bytes_keep}
use Rattle.aig_script.proofs.script_line.ScriptLine.push_byte.Goals as goal

pub returns-then-self-lt-ROOM-clause-keeps : goal.returns-then-self-lt-ROOM-clause-keeps
returns-then-self-lt-ROOM-clause-keeps c = λ line k.
    let kept = c.args.self.now in
    let old = keeps_bytes line kept c.requires k in
    let bytes = ap (λ (l : ScriptLine). l.bytes) c.self.view_is in
    let plain = ap (λ (l : ScriptLine). l.is_row) c.self.view_is ∙ c.requires in
    bytes_keep (line ++ c.args.byte ∷ []) _ plain
    (joins_within line c.self.inside.bytes c.self.inside.length c.args.byte c.self.told c.if-self-lt-ROOM.true (bytes ∙ old.0))
    (begins_with line c.args.byte old.1 (λ h.
    false≢true (sym c.if-begins_row_with.false ∙ c.begins_row_with.ensures.1 (old.0 ∙ ap first_bytes h.0, h.1))))

pub returns-else-self-lt-ROOM-clause-keeps : goal.returns-else-self-lt-ROOM-clause-keeps
returns-else-self-lt-ROOM-clause-keeps c = λ line k.
    let kept = c.args.self.now in
    let old = keeps_bytes line kept c.requires k in
    let bytes = ap (λ (l : ScriptLine). l.bytes) c.self.view_is in
    bytes_keep (line ++ c.args.byte ∷ []) kept c.requires
    (sym bytes ∙ joins_past line c.self.inside.bytes c.self.inside.length c.args.byte c.self.told c.if-self-lt-ROOM.false
    c.self.invariant.0 (bytes ∙ old.0))
    (begins_with line c.args.byte old.1 (λ h.
    false≢true (sym c.if-begins_row_with.false ∙ c.begins_row_with.ensures.1 (old.0 ∙ ap first_bytes h.0, h.1))))
