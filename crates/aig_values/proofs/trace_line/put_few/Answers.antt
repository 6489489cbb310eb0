use Rattle.aig_bytes.proofs.GatherLemmas.{gathers_same}
use Rattle.aig_values.proofs.trace_line.put_few.Goals as goal

pub returns : goal.returns
returns g c = gathers_same c.put_all.ensures c.spell_at-size.ensures.text
