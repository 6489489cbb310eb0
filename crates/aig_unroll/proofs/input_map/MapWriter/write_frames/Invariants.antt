use Rattle.std.proofs.Common.{◌≡◌, ◌+◌, ◌*◌, ◌≤◌, Ok}
use Rattle.std.specs.Prelude.{option_copied}
use Rattle.aig_bytes.specs.Bytes.{Writes}
use Rattle.aig_parts.specs.Formed.{limit}
use Rattle.aig_unroll.specs.InputMap.{frame_origins}
use Rattle.aig_unroll.specs.state.MapLines.{after_kept, kept_lines}
use Rattle.aig_unroll.specs.Unrolled.{frames}
use Rattle.aig_unroll.proofs.input_map.MapWriter.write_frames.Given as goal

abbrev pub invariant-loop-frame : goal.invariant-loop-frame
invariant-loop-frame g l = record {
  written : Writes {T = Unit {0}} {E = Unit {0}} g.W.Write.written g.W.Write.failures l.initial.out l.out
      (kept_lines (option_copied l.self.marks) l.self.prefix.now l.self.circuit.now l.first
      (frames (frame_origins l.self.circuit.now) l.frame)) (Ok tt);
  number : l.position ≡ after_kept (option_copied l.self.marks) l.self.circuit.now l.first
      (frames (frame_origins l.self.circuit.now) l.frame);
  few : l.position ≤ l.first + l.frame * limit;
}
