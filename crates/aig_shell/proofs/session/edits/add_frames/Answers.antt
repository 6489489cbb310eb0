use Rattle.std.proofs.Common.{◌≡◌, ◌+◌, ◌*◌, ◌≤◌, length, replicate, arith, sym, ap, subst, ◌∙◌}
use Rattle.std.proofs.Math.Nat.{mul-le-mul_left}
use Rattle.std.proofs.lemmas.List.{length-append, length-replicate}
use Rattle.aig_parts.specs.Limits.{cell_limit}
use Rattle.aig_parts.specs.declared.raw.Raw.{Raw}
use Rattle.aig_bench.specs.BenchState.{CircuitAndRows}
use Rattle.aig_bench.specs.Edit.{add_frame}
use Rattle.aig_shell.proofs.editing.Allowed.{lacks_memory, row_allowed}
use Rattle.aig_shell.proofs.editing.Leading.{leads_one, leads_step, leads_none, repeated_next, repeated_end, rows_more}
use Rattle.aig_shell.proofs.session.edits.add_frames.Goals as goal

pub loop-added-preserved : goal.loop-added-preserved
loop-added-preserved c =
    let inv = c.loop-added.invariant in
    let n = c.loop-added.added in
    record {
      leads = λ q h. inv.leads q
          (leads_step _ _ q (add_frame c.args.row.now) _ _ (repeated_next n c.args.count (add_frame c.args.row.now) c.loop-added-test.true)
          (leads_one _ _ _ c.in_default.ensures.edits.0 c.in_default.ensures.edits.1) h);
      circuit = ap (λ (p : CircuitAndRows). p.circuit) c.in_default.ensures.edits.1 ∙ inv.circuit;
      rows = rows_more c.args.bench.now.pair.rows c.loop-added.bench.pair.rows _ c.args.row.now n inv.rows
          (ap (λ (p : CircuitAndRows). p.rows) c.in_default.ensures.edits.1);
    }

pub returns-clause-done : goal.returns-clause-done
returns-clause-done c =
    c.loop-added.invariant.leads c.loop-added.bench.pair
    (leads_none _ _ (repeated_end c.loop-added.added c.args.count (add_frame c.args.row.now) (omega (arith, c.loop-added-test.false))))

pub returns-in-Err-clause-memory : goal.returns-in-Err-clause-memory
returns-in-Err-clause-memory c =
    let p = c.loop-added.bench.pair in
    let all = c.args.bench.now.pair.rows in
    let n = c.loop-added.added in
    let inv = c.loop-added.invariant in
    let size : length p.rows ≡ length all + n =
    omega (arith, ap length inv.rows, length-append all (replicate n c.args.row.now), length-replicate n c.args.row.now) in
    let more : length p.rows + 1 ≤ length all + c.args.count = omega (arith, size, c.loop-added-test.true) in
    let most = subst (λ (raw : Raw). (raw.max_var + 1) * (length all + c.args.count) ≤ cell_limit) (sym inv.circuit) c.requires.cells in
    lacks_memory p (add_frame c.args.row.now) c.in-Err.fault
    (row_allowed p c.args.row.now (c.requires.width ∙ ap (λ (raw : Raw). length raw.inputs) (sym inv.circuit))
    (omega (arith, more, c.requires.frames)) (omega (arith, mul-le-mul_left (p.circuit.max_var + 1) more, most)))
    c.in-Err.ensures.edits.0
