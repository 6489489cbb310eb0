use Rattle.aig_bytes.proofs.GatherLemmas.{gathers_not_forwarded}
use Rattle.aig_bytes.proofs.block.ByteBlock.put_field.Goals as goal

pub returns-in_err-forward : goal.returns-in_err-forward
returns-in_err-forward g c =
    rw (← c.push_field.ensures.full c.if-push_field.false)
    (gathers_not_forwarded c.in_err-forward.ensures.written c.from_residual.ensures.0)
