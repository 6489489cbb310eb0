use Rattle.std.proofs.Common.{length, ap, ◌∙◌, arith}
use Rattle.aig_parts.specs.declared.ternary.Tern.TheVariants.{One}
use Rattle.aig_bench.proofs.cells.CellLemmas.{frames_written}
use Rattle.aig_values.specs.InputRows.{InputRows}
use Rattle.aig_reduce.proofs.NeededLemmas.{cell_kept}
use Rattle.aig_reduce.proofs.needed.kept.keep_cells.Goals as goal

pub loop-variable-preserved : goal.loop-variable-preserved
loop-variable-preserved g c =
    let inv = c.loop-variable.invariant in
    let v = c.loop-variable.variable in
    let old = c.loop-variable.cells.rows in
    record {
      width = ap (λ (r : InputRows). r.width) c.set.ensures ∙ inv.width;
      rows = ap (λ (r : InputRows). length r.rows) c.set.ensures ∙ frames_written old c.args.frame v One ∙ inv.rows;
      needed = λ property marks all.
          cell_kept c.args.bench.now.pair property old c.set.new.self.rows c.args.frame v One
          (ap (λ (r : InputRows). r.rows) c.set.ensures) (omega (arith, c.requires.frame, c.requires.rows, inv.rows))
          (marks v (c.is_marked.ensures c.if-not-is_marked.false)) (inv.needed property marks all);
    }
