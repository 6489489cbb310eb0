use Rattle.std.proofs.Common.{true, refl, ap}
use Rattle.aig_shell.proofs.lines.Lines.{quit_twice, quit_saved, quit_warns, said_more}
use Rattle.aig_shell.proofs.talk.conversation.Conversation.quit.Goals as goal

pub returns-then-has_warned : goal.returns-then-has_warned
returns-then-has_warned c =
    quit_twice c.args.self.now c.args.has_warned c.requires.calm c.requires.empty c.if-has_warned.true

pub returns-then-not-told : goal.returns-then-not-told
returns-then-not-told c =
    quit_saved c.args.self.now c.push_unsaved.new.self c.args.has_warned c.in_ok-told.told c.requires.calm
    c.requires.empty c.in_ok-told.ensures.unsaved c.if-not-told.true (c.in_ok-told.ensures.silent c.if-not-told.true)

pub returns : goal.returns
returns c =
    let (what, said) = c.in_ok-told.ensures.said c.if-not-told.false in
    quit_warns c.args.self.now (record c.push_unsaved.new.self { text = c.extend_from_slice.new.self; has_warned = true })
    c.args.has_warned (ap (λ d. d.session) c.in_ok-told.ensures.rest) refl (c.in_ok-told.ensures.unsaved.0 c.if-not-told.false)
    c.if-has_warned.false
    (said_more c.args.self.now.text.items c.push_unsaved.new.self.text.items c.extend_from_slice.new.self.items what _ c.requires.empty said
    c.in_ok-extend_from_slice.ensures.items)
