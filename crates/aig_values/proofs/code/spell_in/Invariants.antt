use Rattle.std.proofs.Common.{◌≡◌, take, map}
use Rattle.aig_values.specs.TraceText.{literal_character}
use Rattle.aig_values.proofs.code.spell_in.Given as goal

abbrev pub invariant-loop-place : goal.invariant-loop-place
invariant-loop-place l = take l.place l.text ≡ map (literal_character l.cells) (take l.place l.literals)
