use Rattle.std.proofs.Common.{◌≡◌, ◌-◌, ◌≤◌, length, take, map, Ok}
use Rattle.aig_bytes.specs.Gathered.{Gathers}
use Rattle.aig_values.specs.TraceText.{literal_character}
use Rattle.aig_values.specs.state.Fields.{literals_of}
use Rattle.aig_values.proofs.trace_line.put_field.Given as goal

abbrev pub invariant-loop-at : goal.invariant-loop-at
invariant-loop-at g l = record {
  inside : l.at ≤ length (literals_of l.field);
  gathers : Gathers {T = Unit {0}} {E = Unit {0}} g.W.Write.written g.W.Write.failures l.initial.out l.out l.initial.block l.block
      (map (literal_character (g.R.Row.cells l.row)) (take l.at (literals_of l.field))) (Ok tt);
}

abbrev pub decreases-loop-at : goal.decreases-loop-at
decreases-loop-at g l = length (literals_of l.field) - l.at
