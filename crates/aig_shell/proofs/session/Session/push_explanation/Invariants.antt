use Rattle.std.proofs.Common.{◌≡◌, ◌-◌, ◌<◌, []}
use Rattle.aig_shell.proofs.session.Session.push_explanation.Given as goal

abbrev pub invariant-loop-lines : goal.invariant-loop-lines
invariant-loop-lines l = record { some : 0 < l.depth; empty : l.text.items ≡ [] }

abbrev pub decreases-loop-lines : goal.decreases-loop-lines
decreases-loop-lines l = l.frame - l.depth
