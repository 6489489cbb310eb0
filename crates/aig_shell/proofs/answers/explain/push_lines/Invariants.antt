use Rattle.std.proofs.Common.{◌≤◌}
use Rattle.aig_shell.proofs.explained.Explained.{LinesSoFar}
use Rattle.aig_shell.proofs.answers.explain.push_lines.Given as goal

abbrev pub invariant-loop-line : goal.invariant-loop-line
invariant-loop-line l = record {
  added : LinesSoFar l.lines l.rest l._line l.initial.text.items l.text.items;
  most : l._line ≤ 40;
}
