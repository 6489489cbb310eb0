use Rattle.std.proofs.Common.{[]}
use Rattle.std.specs.Str.{bytes_eq}
use Rattle.aig_signals.proofs.CalledLemmas.{put_empty}
use Rattle.aig_signals.proofs.called.words.table_of.Goals as goal

pub loop-wanted-preserved : goal.loop-wanted-preserved
loop-wanted-preserved c x =
    put_empty (bytes_eq x _) [] _ _ (c.in_ok-put_wanted-2.ensures x)
    (put_empty (bytes_eq x _) [] _ _ (c.in_ok-put_wanted.ensures x) (c.loop-wanted.invariant x))
