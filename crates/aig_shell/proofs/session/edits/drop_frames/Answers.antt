use Rattle.std.proofs.Common.{◌<◌, length, arith, ap, ◌∙◌}
use Rattle.aig_bench.specs.BenchState.{CircuitAndRows}
use Rattle.aig_bench.specs.Edit.{drop_frame}
use Rattle.aig_shell.proofs.editing.Allowed.{drop_allowed}
use Rattle.aig_shell.proofs.editing.Leading.{leads_one, leads_step, leads_none, repeated_next, repeated_end, rows_less}
use Rattle.aig_shell.proofs.editing.Leading.{rows_there}
use Rattle.aig_shell.proofs.session.edits.drop_frames.Goals as goal

pub loop-dropped-preserved : goal.loop-dropped-preserved
loop-dropped-preserved c =
    let inv = c.loop-dropped.invariant in
    let all = c.args.bench.now.pair.rows in
    let rows = c.loop-dropped.bench.pair.rows in
    let n = c.loop-dropped.dropped in
    let within : n < length all = omega (arith, c.requires, c.loop-dropped-test.true) in
    record {
      leads = λ q h. inv.leads q
          (leads_step _ _ q drop_frame _ _ (repeated_next n c.args.count drop_frame c.loop-dropped-test.true)
          (leads_one _ _ drop_frame (drop_allowed c.loop-dropped.bench.pair (rows_there all rows n within inv.rows)) c.drop_frame.ensures) h);
      circuit = ap (λ (p : CircuitAndRows). p.circuit) c.drop_frame.ensures ∙ inv.circuit;
      rows = rows_less all rows _ n within inv.rows (ap (λ (p : CircuitAndRows). p.rows) c.drop_frame.ensures);
    }

pub returns-clause-leads : goal.returns-clause-leads
returns-clause-leads c =
    c.loop-dropped.invariant.leads c.loop-dropped.bench.pair
    (leads_none _ _ (repeated_end c.loop-dropped.dropped c.args.count drop_frame (omega (arith, c.loop-dropped-test.false))))
