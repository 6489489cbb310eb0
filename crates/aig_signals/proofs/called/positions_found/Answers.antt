use Rattle.std.proofs.Common.{None}
use Rattle.aig_signals.proofs.CalledLemmas.{found_next}
use Rattle.aig_signals.proofs.called.positions_found.Goals as goal

pub returns : goal.returns
returns c x = found_next None _ _ _ (c.in_ok-table.ensures x) (c.in_ok-note_all.ensures x)
