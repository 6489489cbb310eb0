use Rattle.std.proofs.Common.{[], ◌∷◌, ◌++◌}
use Rattle.aig_bytes.proofs.WriteLemmas.{writes_then, writes_err}
use Rattle.aig_shell.proofs.talk.conversation.Conversation.write_unsaved.Goals as goal

pub returns-in_err-write_all-2 : goal.returns-in_err-write_all-2
returns-in_err-write_all-2 g c = (
  c.as_slice.result.now ++ 10 ∷ [],
  λ s at n. absurd (n (c.in-Ok-true.ensures.says c.in-Ok-true.field-0-test s at.state)),
  writes_err (writes_then c.in_ok-write_all.ensures c.in_err-write_all-2.ensures) c.from_residual-in_err-write_all-2.ensures.0,
)

pub returns-in_ok-write_all-2 : goal.returns-in_ok-write_all-2
returns-in_ok-write_all-2 g c = (
  c.as_slice.result.now ++ 10 ∷ [],
  λ s at n. absurd (n (c.in-Ok-true.ensures.says c.in-Ok-true.field-0-test s at.state)),
  writes_then c.in_ok-write_all.ensures c.in_ok-write_all-2.ensures,
)
