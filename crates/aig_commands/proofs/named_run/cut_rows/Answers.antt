use Rattle.std.proofs.Common.{◌≡◌, ◌+◌, ◌-◌, ap, ◌∙◌, arith, length, subst, ◌++◌}
use Rattle.std.proofs.lemmas.List.{length_push}
use Rattle.aig_refute.specs.UnrolledWitness.{cut}
use Rattle.aig_commands.proofs.NamedRuns.{enough_left, rows_done, takes_row}
use Rattle.aig_commands.proofs.named_run.cut_rows.Goals as goal

pub loop-frame-preserved : goal.loop-frame-preserved
loop-frame-preserved c =
    let is = c.in_ok-push.ensures.ok in
    let rows_is = ap (λ r. r.rows) is in
    let width' = c.args.width in
    let inv = c.loop-frame.invariant in
    record {
      width = ap (λ r. r.width) is ∙ inv.width;
      count = ap length rows_is ∙ length_push c.loop-frame.rows.rows c.split_at.result.0.now ∙ ap (λ n. n + 1) inv.count;
      enough = (enough_left width' c.args.frames c.loop-frame.frame c.loop-frame.rest.now c.split_at.result.1.now
          c.loop-frame-test.true inv.enough c.split_at.ensures.back).1;
      rows = takes_row width' c.args.frames c.loop-frame.frame c.loop-frame.rows.rows c.loop-frame.rest.now
          (cut width' c.args.frames c.args.values.now) c.loop-frame-test.true inv.rows c.push.new.self.rows
          c.split_at.result.0.now c.split_at.result.1.now c.split_at.ensures.front c.split_at.ensures.back rows_is;
    }

pub returns-clause-rows : goal.returns-clause-rows
returns-clause-rows c =
    let at : c.loop-frame.frame ≡ c.args.frames = omega (arith, c.loop-frame-test.false, c.loop-frame.auto.frame-end) in
    rows_done c.args.width c.args.frames c.loop-frame.rows.rows c.loop-frame.rest.now (cut c.args.width c.args.frames c.args.values.now)
    (subst (λ n. c.loop-frame.rows.rows ++ cut c.args.width (c.args.frames - n) c.loop-frame.rest.now
    ≡ cut c.args.width c.args.frames c.args.values.now) at c.loop-frame.invariant.rows)
