use Rattle.std.proofs.Common.{◌≡◌, length, map, take}
use Rattle.std.specs.Prelude.{max, fold}
use Rattle.aig_prompt.specs.Table.{row_of}
use Rattle.aig_prompt.proofs.table.name_width.Given as goal

abbrev pub invariant-loop-row : goal.invariant-loop-row
invariant-loop-row l = l.width ≡ fold (λ width row. max width (length row.name)) 5 (map row_of (take l.row-index l.rows))
