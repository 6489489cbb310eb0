use Rattle.std.proofs.Common.{ℕ, List, Bor, ◌+◌, ◌-◌}
use Rattle.aig_prompt.specs.Table.{row_of}
use Rattle.aig_shell.specs.Tables.{IsRowOf}
use Rattle.aig_shell.proofs.tables.Shown.{handed_on, no_rows, rows_more}
use Rattle.aig_shell.proofs.session.Session.rows_among.Goals as goal

pub returns-in_err-row-clause-err : goal.returns-in_err-row-clause-err
returns-in_err-row-clause-err c =
    handed_on c.from_residual.result c.in_err-row.field-0.0 c.from_residual.ensures.1
    (λ other t n. no_rows (IsRowOf c.args.self.now.run.bench.pair t n) (λ (w : Bor (List ℕ)). w.now) c.args.names.now
    c.loop-name.name-index _ c.loop-name-test.true (c.in_err-row.ensures.err other t n))

pub loop-name-preserved : goal.loop-name-preserved
loop-name-preserved c =
    rows_more (IsRowOf c.args.self.now.run.bench.pair c.args.frames.first (c.args.frames.last + 1 - c.args.frames.first)) (λ (w : Bor (List ℕ)). w.now) row_of
    c.args.names.now c.loop-name.name-index _ c.loop-name.rows.items c.push.new.self.items c.in_ok-row.row c.loop-name-test.true
    c.loop-name.invariant c.in_ok-row.ensures.ok c.in_ok-push.ensures.items
