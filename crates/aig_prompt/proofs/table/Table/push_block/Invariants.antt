use Rattle.std.proofs.Common.{◌≡◌, ◌+◌, ◌-◌, ◌++◌, map, take}
use Rattle.std.specs.Prelude.{codes, decimal}
use Rattle.std.specs.List.{flat_map}
use Rattle.aig_prompt.specs.Table.{cell_at, line_text, row_of}
use Rattle.aig_prompt.proofs.table.Table.push_block.Given as goal

abbrev pub invariant-loop-row : goal.invariant-loop-row
invariant-loop-row l =
    l.text.items
    ≡ (l.fn.text.items
    ++ line_text l.layout.name l.layout.cell (codes "frame") (λ place. decimal (l.self.first + place)) l.begin (l.end - l.begin))
    ++ flat_map (λ row. line_text l.layout.name l.layout.cell row.name (cell_at row) l.begin (l.end - l.begin))
    (map row_of (take l.row-index l.self.rows.items))
