use Rattle.std.proofs.Common.{arith}
use Rattle.aig_sat.proofs.checking.IdLemmas.{id_read}
use Rattle.aig_sat.proofs.checker.ids.Ids.id_at.Goals as goal

pub returns-then-index-len : goal.returns-then-index-len
returns-then-index-len c = λ inside. id_read _ _ _ inside c.index.ensures
