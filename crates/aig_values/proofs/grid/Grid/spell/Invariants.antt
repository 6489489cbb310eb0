use Rattle.std.proofs.Common.{◌≡◌, take, map}
use Rattle.aig_values.specs.InputRows.{row_at}
use Rattle.aig_values.specs.TraceText.{literal_character}
use Rattle.aig_values.proofs.grid.Grid.spell.Given as goal

abbrev pub invariant-loop-place : goal.invariant-loop-place
invariant-loop-place g l = take l.place l.text
    ≡ map (literal_character (row_at (g.Self.Grid.cells l.self) l.frame)) (take l.place l.literals)
