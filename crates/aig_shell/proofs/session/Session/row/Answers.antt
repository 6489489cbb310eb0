use Rattle.std.proofs.Common.{ℕ, List, [], ◌∷◌, ◌++◌, ap, ◌∙◌}
use Rattle.aig_shell.specs.Tables.{IsCell}
use Rattle.aig_shell.proofs.tables.Shown.{cells_more}
use Rattle.aig_shell.proofs.session.Session.row.Goals as goal

pub loop-frame-preserved : goal.loop-frame-preserved
loop-frame-preserved c =
    cells_more (IsCell c.args.self.now.run.bench.pair c.args.literals.now) c.args.frames.first c.loop-frame.frame c.loop-frame.cells
    c.push.new.self c.fill_cell.new.cell.items c.loop-frame.auto.frame c.loop-frame.invariant c.in_ok-fill_cell.ensures
    (c.in_ok-push.ensures.pushed ∙ ap (λ (t : List ℕ). c.loop-frame.cells ++ t ∷ []) c.as_slice.ensures.value)
