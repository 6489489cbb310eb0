use Rattle.std.proofs.Common.{ℕ, List, map, ap, subst, Bor, ◌∙◌}
use Rattle.aig_shell.specs.Conversation.{EndsWords}
use Rattle.aig_shell.proofs.lines.Lines.{words_lacking}
use Rattle.aig_shell.proofs.talk.conversation.Conversation.do_line.Goals as goal

pub returns-in_err-words : goal.returns-in_err-words
returns-in_err-words g c =
    words_lacking c.args.self.now _ c.from_residual.result (g.K.Keep.calls c.args.files.now) c.from_residual.ensures.1

pub returns : goal.returns
returns g c =
    subst (λ (ws : List (List ℕ)). EndsWords c.args.self.now ws c.do_words.result (g.K.Keep.calls c.args.files.now)
    (g.K.Keep.calls c.do_words.new.files) c.do_words.new.self)
    (ap (map (λ (w : Bor (List ℕ)). w.now)) c.as_slice.ensures.value ∙ c.in_ok-words.ensures) c.do_words.ensures
