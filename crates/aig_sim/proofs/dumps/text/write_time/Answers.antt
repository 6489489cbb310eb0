use Rattle.aig_bytes.proofs.GatherLemmas.{written_whole, written_part}
use Rattle.aig_sim.proofs.dumps.text.write_time.Goals as goal

pub returns-in_err-put_time : goal.returns-in_err-put_time
returns-in_err-put_time g c = written_part c.new-block.ensures c.in_err-put_time.ensures c.from_residual.ensures.0

pub returns : goal.returns
returns g c = written_whole c.new-block.ensures c.in_ok-put_time.ensures c.forward.ensures.written
