use Rattle.std.proofs.Common.{subst, sym, ◌∙◌}
use Rattle.aig_script.proofs.FirstBytes.{begins, whole_reply}
use Rattle.aig_script.proofs.ScriptLines.{keeps_bytes}
use Rattle.aig_script.specs.Replies.{WholeReply}
use Rattle.aig_script.proofs.reply.answer.Goals as goal

pub returns : goal.returns
returns g c =
    let h = c.answer_command.ensures in (
      h.0,
      λ text k.
          let kept = keeps_bytes text c.args.line.now c.in_default.ensures.none k in
          let e = c.bytes.ensures ∙ kept.0 in
          whole_reply text _ h.0 _ kept.1
          (subst (λ bytes. WholeReply c.args.bench.now.pair bytes h.0 c.answer_command.new.bench.pair) e
          (h.1 (λ b. kept.1 (begins text c.bytes.result.now b (sym e))))),
      h.2,
    )
