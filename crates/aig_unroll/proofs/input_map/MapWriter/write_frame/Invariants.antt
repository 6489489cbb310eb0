use Rattle.std.proofs.Common.{drop}
use Rattle.std.specs.Prelude.{option_copied}
use Rattle.aig_unroll.specs.InputMap.{frame_origins}
use Rattle.aig_unroll.proofs.KeptLines.{Midway}
use Rattle.aig_unroll.proofs.input_map.MapWriter.write_frame.Given as goal

abbrev pub invariant-loop-place : goal.invariant-loop-place
invariant-loop-place g l =
    Midway (option_copied l.self.marks) l.self.prefix.now l.self.circuit.now g.W.Write.written g.W.Write.failures
    l.initial.out l.out l.first (frame_origins l.self.circuit.now l.frame) l.position
    (drop l.place (frame_origins l.self.circuit.now l.frame))
