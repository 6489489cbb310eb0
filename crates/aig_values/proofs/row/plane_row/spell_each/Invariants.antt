use Rattle.std.proofs.Common.{◌≡◌, take, map}
use Rattle.aig_values.specs.TraceText.{literal_character}
use Rattle.aig_values.specs.state.Words.{spelled}
use Rattle.aig_values.proofs.row.plane_row.spell_each.Given as goal

abbrev pub invariant-loop-place : goal.invariant-loop-place
invariant-loop-place l = take l.place l.text ≡ map (literal_character (spelled l.words)) (take l.place l.literals)
