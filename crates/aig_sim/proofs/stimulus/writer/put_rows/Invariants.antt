use Rattle.std.proofs.Common.{take, flat_map, Ok}
use Rattle.aig_bytes.specs.Gathered.{Gathers}
use Rattle.aig_sim.specs.StimulusText.{row_line}
use Rattle.aig_sim.proofs.stimulus.writer.put_rows.Given as goal

abbrev pub invariant-loop-frame : goal.invariant-loop-frame
invariant-loop-frame g l =
    Gathers {T = Unit {0}} {E = Unit {0}} g.W.Write.written g.W.Write.failures l.initial.out l.out l.initial.block l.block
    (flat_map row_line (take l.frame l.stimulus.rows)) (Ok tt)
