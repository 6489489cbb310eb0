use Rattle.std.proofs.Common.{ℕ, List, map, sym, ap, subst, Bor}
use Rattle.aig_shell.specs.Conversation.{EndsWords}
use Rattle.aig_shell.proofs.lines.Lines.{words_silent, no_words, comment}
use Rattle.aig_shell.proofs.talk.conversation.Conversation.do_words.Goals as goal

pub returns-in_default : goal.returns-in_default
returns-in_default g c =
    words_silent c.args.self.now _ (g.K.Keep.calls c.args.files.now) c.requires.empty
    (no_words c.args.words.now (rw c.in_default.is at c.split_first.ensures.cases))

pub returns-in-Some-after_byte : goal.returns-in-Some-after_byte
returns-in-Some-after_byte g c =
    words_silent c.args.self.now _ (g.K.Keep.calls c.args.files.now) c.requires.empty
    (comment c.args.words.now c.in-Some.rest.now c.in-Some.first.now c.in-Some-after_byte.field-0.now c.in-Some.ensures.cases.0
    c.in-Some-after_byte.ensures.some)

pub returns-in-None : goal.returns-in-None
returns-in-None g c =
    subst (λ (ws : List (List ℕ)). EndsWords c.args.self.now ws c.do_request.result (g.K.Keep.calls c.args.files.now)
    (g.K.Keep.calls c.do_request.new.files) c.do_request.new.self) (sym (ap (map (λ (w : Bor (List ℕ)). w.now)) c.in-Some.ensures.cases.0))
    c.do_request.ensures
