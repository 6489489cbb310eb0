use Rattle.std.proofs.Common.{◌≡◌, length, arith}
use Rattle.aig_prompt.proofs.TableLemmas.{widths_more}
use Rattle.aig_prompt.proofs.table.name_width.Goals as goal

pub loop-row-preserved : goal.loop-row-preserved
loop-row-preserved c =
    let long : c.len.result ≡ length c.row-item.result.name.items = omega (arith, c.len.ensures, c.row-item.result.name.ok.0) in
    widths_more c.args.rows.now c.loop-row.row-index c.loop-row.width _ _ c.row-item.result c.loop-row-test.true c.row-item.is long
    c.max-width.ensures c.loop-row.invariant
