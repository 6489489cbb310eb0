use Rattle.std.proofs.Common.{◌-◌}
use Rattle.aig_prompt.specs.Table.{TableRow, cell_at, line_text, row_of}
use Rattle.aig_prompt.proofs.TableLemmas.{rows_more, block_end}
use Rattle.aig_prompt.proofs.table.Table.push_block.Goals as goal

pub loop-row-preserved : goal.loop-row-preserved
loop-row-preserved c =
    rows_more
    (λ (row : TableRow). line_text c.args.layout.name c.args.layout.cell row.name (cell_at row) c.args.begin (c.args.end - c.args.begin))
    row_of _ c.loop-row.text.items c.push_row.new.text.items c.as_slice-row-items.result.now c.args.self.now.rows.items
    c.loop-row.row-index c.row-item.result c.as_slice-row-items.ensures.value c.loop-row-test.true c.row-item.is c.loop-row.invariant
    c.in_ok-push_row.ensures

pub returns : goal.returns
returns c =
    block_end c.args.layout.name c.args.layout.cell c.args.self.now.first c.as_slice-row-items.result.now c.args.self.now.rows.items
    c.loop-row.row-index c.args.begin (c.args.end - c.args.begin) c.args.text.now.items c.loop-row.text.items
    c.as_slice-row-items.ensures.value c.loop-row-test.false c.loop-row.invariant
