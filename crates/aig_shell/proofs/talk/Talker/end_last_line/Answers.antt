use Rattle.std.proofs.Common.{sym, ◌∙◌}
use Rattle.std.proofs.lemmas.Bool.{false≢true}
use Rattle.aig_shell.proofs.lines.Talks.{finished_stands, finishes}
use Rattle.aig_shell.proofs.talk.Talker.end_last_line.Goals as goal

pub returns-then-is_empty : goal.returns-then-is_empty
returns-then-is_empty g c = λ start person s input st.
    finished_stands st (λ text h. (c.is_empty.ensures text h).0 c.if-is_empty.true)

pub returns : goal.returns
returns g c = λ start person s input st.
    finishes c.end_line.new.self c.end_line.result st (λ text h e. false≢true (sym c.if-is_empty.false ∙ (c.is_empty.ensures text h).1 e))
    c.end_line.ensures.reply c.end_line.ensures.prompt
