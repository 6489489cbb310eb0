use Rattle.std.proofs.Common.{ℕ, List, ◌++◌, ap, ◌∙◌}
use Rattle.aig_prompt.specs.Table.{cell_at, cell_text, row_of}
use Rattle.aig_prompt.proofs.TableLemmas.{places_more, line_end}
use Rattle.aig_prompt.proofs.table.push_row.Goals as goal

pub loop-place-preserved : goal.loop-place-preserved
loop-place-preserved c =
    places_more (λ place. cell_text c.args.layout.cell (cell_at (row_of c.args.row.now) place)) c.loop-place.text.items
    c.push_cell.new.text.items _ c.loop-place.place c.args.end c.loop-place-test.true
    (c.in_ok-push_cell.ensures ∙ ap (λ (t : List ℕ). c.loop-place.text.items ++ cell_text c.args.layout.cell t) c.get.ensures.text)
    c.loop-place.invariant

pub returns : goal.returns
returns c =
    line_end c.args.layout.name c.args.layout.cell c.args.row.now.name.items (cell_at (row_of c.args.row.now)) c.args.begin c.args.end
    c.loop-place.place c.args.text.now.items c.loop-place.text.items _ c.loop-place-test.false c.loop-place.invariant
    c.in_ok-push.ensures.items
