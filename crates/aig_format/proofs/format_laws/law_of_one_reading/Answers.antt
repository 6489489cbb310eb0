use Rattle.aig_format.proofs.FileLaws.{one_reading}
use Rattle.aig_format.proofs.format_laws.law_of_one_reading.Goals as goal

pub returns : goal.returns
returns c = one_reading
