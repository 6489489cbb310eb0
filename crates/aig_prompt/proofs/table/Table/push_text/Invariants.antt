use Rattle.std.proofs.Common.{◌≡◌, ◌-◌, ◌++◌, ◌≤◌, ℕ, List, map}
use Rattle.std.specs.Prelude.{sum}
use Rattle.aig_prompt.specs.Table.{blocks_text, row_of}
use Rattle.aig_prompt.proofs.table.Table.push_text.Given as goal

abbrev pub invariant-loop-begin : goal.invariant-loop-begin
invariant-loop-begin l =
    (l.begin ≤ l.frames)
    × ((sizes : List ℕ) × (sum sizes ≡ l.begin)
    × (l.text.items ≡ l.fn.text.items ++ blocks_text l.layout.name l.layout.cell l.self.first (map row_of l.self.rows.items) 0 sizes))

abbrev pub decreases-loop-begin : goal.decreases-loop-begin
decreases-loop-begin l = l.frames - l.begin
