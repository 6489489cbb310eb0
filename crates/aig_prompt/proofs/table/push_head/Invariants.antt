use Rattle.std.proofs.Common.{◌≡◌, ◌+◌, ◌-◌, ◌++◌}
use Rattle.std.specs.Prelude.{codes, decimal}
use Rattle.std.specs.List.{flat_map, range_with_len}
use Rattle.aig_prompt.specs.Table.{name_text, cell_text}
use Rattle.aig_prompt.proofs.table.push_head.Given as goal

abbrev pub invariant-loop-place : goal.invariant-loop-place
invariant-loop-place l =
    l.text.items ++ flat_map (λ place. cell_text l.layout.cell (decimal (l.first + place))) (range_with_len l.place (l.end - l.place))
    ≡ (l.fn.text.items ++ name_text l.layout.name (codes "frame"))
    ++ flat_map (λ place. cell_text l.layout.cell (decimal (l.first + place))) (range_with_len l.begin (l.end - l.begin))
