use Rattle.aig_cnf.proofs.ReadMap.{reads_map}
use Rattle.aig_cnf.proofs.laws.law_of_read_map.Goals as goal

pub returns : goal.returns
returns c = λ raw p bad test goal order k circuit is exact canonical.
    reads_map raw bad test circuit p is exact goal order canonical k
