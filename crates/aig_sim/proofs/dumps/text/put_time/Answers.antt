use Rattle.aig_bytes.proofs.GatherLemmas.{gathers_then, gathers_stop, gathers_failed}
use Rattle.aig_sim.proofs.dumps.text.put_time.Goals as goal

pub returns-in_err-put : goal.returns-in_err-put
returns-in_err-put g c = let h = c.from_residual.ensures.0 in gathers_stop _ h (gathers_failed c.in_err-put.ensures h)

pub returns-in_err-put_number : goal.returns-in_err-put_number
returns-in_err-put_number g c =
    let h = c.from_residual-in_err-put_number.ensures.0 in
    gathers_then c.in_ok-put.ensures (gathers_stop _ h (gathers_failed c.in_err-put_number.ensures h))

pub returns : goal.returns
returns g c = gathers_then c.in_ok-put.ensures (gathers_then c.in_ok-put_number.ensures c.put-2.ensures)
