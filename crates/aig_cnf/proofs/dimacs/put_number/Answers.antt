use Rattle.std.proofs.Common.{◌∙◌}
use Rattle.aig_bytes.proofs.GatherLemmas.{gathers_same}
use Rattle.aig_cnf.proofs.dimacs.put_number.Goals as goal

pub returns : goal.returns
returns g c = gathers_same c.put_all.ensures (c.as_bytes.ensures.value ∙ c.format.ensures.text)
