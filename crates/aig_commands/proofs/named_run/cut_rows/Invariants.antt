use Rattle.std.proofs.Common.{◌≡◌, ◌++◌, ◌-◌, ◌*◌, ◌≤◌, length}
use Rattle.aig_refute.specs.UnrolledWitness.{cut}
use Rattle.aig_commands.proofs.named_run.cut_rows.Given as goal

abbrev pub invariant-loop-frame : goal.invariant-loop-frame
invariant-loop-frame l = record {
  width : l.rows.width ≡ l.width;
  count : length l.rows.rows ≡ l.frame;
  enough : (l.frames - l.frame) * l.width ≤ length l.rest;
  rows : l.rows.rows ++ cut l.width (l.frames - l.frame) l.rest ≡ cut l.width l.frames l.values;
}
