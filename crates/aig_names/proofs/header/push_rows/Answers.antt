use Rattle.aig_names.proofs.RowLemmas.{row_more}
use Rattle.aig_names.proofs.header.push_rows.Goals as goal

pub loop-row-preserved : goal.loop-row-preserved
loop-row-preserved c =
    let rows = c.args.rows.now in
    let more = row_more c.args.symbols.now rows c.loop-row.row-index _ c.loop-row.first _ c.loop-row-test.true
    c.loop-row.text.items c.push_section.new.text.items _ c.in_ok-push_section.ensures c.loop-row.invariant.text
    c.loop-row.invariant.size in
    record { text = more.0; size = more.1 }
