use Rattle.std.proofs.Common.{◌≡◌, take, map}
use Rattle.aig_values.specs.TraceText.{literal_character}
use Rattle.aig_values.proofs.row.Row.spell.Given as goal

abbrev pub invariant-loop-place : goal.invariant-loop-place
invariant-loop-place g l = take l.place l.text
    ≡ map (literal_character (g.Self.Row.cells l.self)) (take l.place l.literals)
