use Rattle.std.proofs.Common.{◌≡◌, ◌+◌, ◌++◌, length, take, map}
use Rattle.aig_values.specs.TraceText.{literal_character}
use Rattle.aig_values.specs.state.Fields.{literals_of}
use Rattle.aig_values.proofs.trace_line.short_line.spell_at.Given as goal

abbrev pub invariant-loop-place : goal.invariant-loop-place
invariant-loop-place g l = record {
  size : length l.text ≡ length l.initial.text;
  filled : take (l.at + l.place) l.text
      ≡ take l.at l.initial.text ++ map (literal_character (g.R.Row.cells l.row)) (take l.place (literals_of l.field));
}
