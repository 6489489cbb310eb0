use Rattle.std.proofs.Common.{◌≡◌, ◌⊎◌, ◌<◌, inl, inr, arith, ap, ◌∙◌}
use Rattle.std.specs.Prelude.{◌==◌, count_by}
use Rattle.std.proofs.lemmas.Result.{IfOk-weaker}
use Rattle.aig_why.specs.Why.{run_of}
use Rattle.aig_shell.specs.Session.{own_circuit}
use Rattle.aig_shell.proofs.explained.Explained.{explains_lines}
use Rattle.aig_shell.proofs.session.Session.push_explanation.Goals as goal
use Rattle.aig_shell.proofs.session.Session.push_explanation.Goals.{then-frames-eq0-via-then-frames-eq0}
use Rattle.aig_shell.proofs.session.Session.push_explanation.Goals.{then-frames-eq0-via-else-frames-eq0+then-count}

pub returns-then-frames-eq0 : goal.returns-then-frames-eq0
returns-then-frames-eq0 c =
    let enough : (c.saturating_sub.result ≡ 0) ⊎ (41 < c.line_count-count.result) = elim c.then-frames-eq0.branch [
      | then-frames-eq0-via-then-frames-eq0 w ↦ inl (omega (arith, w.if-frames-eq0.true))
      | then-frames-eq0-via-else-frames-eq0+then-count w ↦ inr (omega (arith, w.if-count.true))
    ] in
    IfOk-weaker c.push_more.result _ _
    (λ done e. explains_lines (own_circuit c.args.self.now) (run_of c.args.self.now.run.bench.pair) c.args.question.now.name
    c.args.question.now.literals c.args.frame c.saturating_sub.result c.in_ok-lines.lines.items c.loop-lines.text.items
    c.push_lines.new.text.items c.push_more.new.text.items c.line_count-count.result c.in_ok-lines.ensures c.loop-lines.invariant.empty
    (rw c.as_slice-then-frames-eq0.ensures.value at c.in_ok-push_lines.ensures)
    (c.line_count-count.ensures ∙ ap (count_by (λ y. y == 10)) c.as_slice.ensures.value) enough e)
    c.push_more.ensures
