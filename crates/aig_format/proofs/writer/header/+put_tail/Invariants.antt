use Rattle.std.proofs.Common.{length}
use Rattle.aig_format.proofs.writer.header.+put_tail.Given as goal

abbrev pub decreases-put_tail : goal.decreases-put_tail
decreases-put_tail g l = length l.counts.now
