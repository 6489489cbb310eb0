use Rattle.std.proofs.Common.{◌++◌}
use Rattle.aig_bytes.proofs.WriteLemmas.{writes_then, writes_stop}
use Rattle.aig_shell.specs.Conversation.{prompt}
use Rattle.aig_shell.proofs.lines.Talks.{is_greeting}
use Rattle.aig_shell.proofs.talk.Talker.begin.Goals as goal

pub returns-in_err-write_all : goal.returns-in_err-write_all
returns-in_err-write_all g c =
    let person = c.args.self.now.has_prompt in (
      c.as_slice.result.now ++ prompt person,
      is_greeting person c.as_slice.result.now c.if-not-self.false,
      writes_stop (prompt person) c.in_err-write_all.ensures c.from_residual.ensures.0,
    )

pub returns : goal.returns
returns g c =
    let person = c.args.self.now.has_prompt in (
      c.as_slice.result.now ++ prompt person,
      is_greeting person c.as_slice.result.now c.if-not-self.false,
      writes_then c.in_ok-write_all.ensures c.write_prompt.ensures,
    )
