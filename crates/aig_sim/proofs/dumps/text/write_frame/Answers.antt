use Rattle.aig_bytes.proofs.GatherLemmas.{written_whole, written_part}
use Rattle.aig_sim.proofs.dumps.text.write_frame.Goals as goal

pub returns-in_err-put_frame : goal.returns-in_err-put_frame
returns-in_err-put_frame g c = written_part c.clear.ensures c.in_err-put_frame.ensures c.from_residual.ensures.0

pub returns : goal.returns
returns g c = written_whole c.clear.ensures c.in_ok-put_frame.ensures c.forward.ensures.written
