use Rattle.std.proofs.Common.{take, flat_map, Ok}
use Rattle.aig_bytes.specs.Gathered.{Gathers}
use Rattle.aig_values.specs.TraceText.{line_text}
use Rattle.aig_values.proofs.trace_line.put_lines.Given as goal

abbrev pub invariant-loop-frame : goal.invariant-loop-frame
invariant-loop-frame g l =
    Gathers {T = Unit {0}} {E = Unit {0}} g.W.Write.written g.W.Write.failures l.initial.out l.out l.initial.block l.block
    (flat_map (line_text l.circuit) (take l.frame (g.G.Grid.cells l.grid))) (Ok tt)
