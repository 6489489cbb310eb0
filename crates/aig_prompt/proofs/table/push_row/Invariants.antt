use Rattle.std.proofs.Common.{◌≡◌, ◌+◌, ◌-◌, ◌++◌}
use Rattle.std.specs.List.{flat_map, range_with_len}
use Rattle.aig_prompt.specs.Table.{cell_at, name_text, cell_text, row_of}
use Rattle.aig_prompt.proofs.table.push_row.Given as goal

abbrev pub invariant-loop-place : goal.invariant-loop-place
invariant-loop-place l =
    l.text.items ++ flat_map (λ place. cell_text l.layout.cell (cell_at (row_of l.row) place)) (range_with_len l.place (l.end - l.place))
    ≡ (l.fn.text.items ++ name_text l.layout.name l.row.name.items)
    ++ flat_map (λ place. cell_text l.layout.cell (cell_at (row_of l.row) place)) (range_with_len l.begin (l.end - l.begin))
