use Rattle.std.specs.Str.{bytes_eq}
use Rattle.aig_signals.proofs.WantedLemmas.{put_nothing}
use Rattle.aig_signals.proofs.property.wanted.table_of.Goals as goal

pub loop-wanted-preserved : goal.loop-wanted-preserved
loop-wanted-preserved c x = put_nothing (bytes_eq x _) _ _ (c.in_ok-put.ensures x) (c.loop-wanted.invariant x)
