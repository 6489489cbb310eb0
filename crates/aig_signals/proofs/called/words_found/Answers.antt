use Rattle.aig_signals.proofs.CalledWords.{with_all}
use Rattle.aig_signals.proofs.called.words_found.Goals as goal

pub returns : goal.returns
returns c x = with_all _ _ _ (c.in_ok-table.ensures x) (c.in_ok-note_all.ensures x)
