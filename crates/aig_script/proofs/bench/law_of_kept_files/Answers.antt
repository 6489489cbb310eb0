use Rattle.aig_script.proofs.KeptFiles.{one_pair}
use Rattle.aig_script.proofs.bench.law_of_kept_files.Goals as goal

pub returns : goal.returns
returns c = one_pair
