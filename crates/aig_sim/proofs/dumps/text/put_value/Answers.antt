use Rattle.aig_bytes.proofs.GatherLemmas.{gathers_then, gathers_stop, gathers_failed, gathers_held}
use Rattle.aig_sim.proofs.dumps.text.put_value.Goals as goal

pub returns-then-push_value : goal.returns-then-push_value
returns-then-push_value g c = gathers_held (c.push_value.ensures.pushed c.if-push_value.true)

pub returns-in_err-put : goal.returns-in_err-put
returns-in_err-put g c =
    let h = c.from_residual.ensures.0 in
    rw (← c.push_value.ensures.full c.if-push_value.false) (gathers_stop _ h (gathers_failed c.in_err-put.ensures h))

pub returns-in_err-put_code : goal.returns-in_err-put_code
returns-in_err-put_code g c =
    let h = c.from_residual-in_err-put_code.ensures.0 in
    rw (← c.push_value.ensures.full c.if-push_value.false)
    (gathers_then c.in_ok-put.ensures (gathers_stop _ h (gathers_failed c.in_err-put_code.ensures h)))

pub returns : goal.returns
returns g c =
    rw (← c.push_value.ensures.full c.if-push_value.false)
    (gathers_then c.in_ok-put.ensures (gathers_then c.in_ok-put_code.ensures c.put-2.ensures))
