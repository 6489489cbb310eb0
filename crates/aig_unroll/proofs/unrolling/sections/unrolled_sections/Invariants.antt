use Rattle.std.proofs.Common.{◌≤◌, ◌-◌}
use Rattle.aig_unroll.specs.state.FrameTable.{IsFrame, AreSections}
use Rattle.aig_unroll.proofs.unrolling.sections.unrolled_sections.Given as goal

abbrev pub invariant-loop-frame : goal.invariant-loop-frame
invariant-loop-frame l = record {
  number : l.frame.number ≤ l.frames;
  frame : IsFrame l.circuit l.order l.frames l.frame.number l.frame;
  sections : AreSections l.circuit l.order l.frames l.frame.number l.sections;
}

abbrev pub decreases-loop-frame : goal.decreases-loop-frame
decreases-loop-frame l = l.frames - l.frame.number
