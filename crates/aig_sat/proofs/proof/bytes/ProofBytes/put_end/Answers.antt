use Rattle.std.proofs.Common.{arith}
use Rattle.aig_sat.proofs.reading.TakingLemmas.{held_end}
use Rattle.aig_sat.proofs.proof.bytes.ProofBytes.put_end.Goals as goal

pub returns-clause-waiting : goal.returns-clause-waiting
returns-clause-waiting c = held_end c.self.inside.buffer (omega (arith, c.self.told))
