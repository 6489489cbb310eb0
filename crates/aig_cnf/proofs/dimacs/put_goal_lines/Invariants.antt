use Rattle.std.proofs.Common.{Ok, slice_index}
use Rattle.aig_bytes.specs.Gathered.{Gathers}
use Rattle.aig_unroll.specs.Unrolled.{frames}
use Rattle.aig_cnf.specs.CnfText.{goal_line}
use Rattle.aig_cnf.proofs.dimacs.put_goal_lines.Given as goal

abbrev pub invariant-loop-frame : goal.invariant-loop-frame
invariant-loop-frame g l =
    Gathers {T = Unit {0}} {E = Unit {0}} g.W.Write.written g.W.Write.failures l.initial.out l.out l.initial.block l.block
    (frames (λ t. goal_line (slice_index l.goals t) t) l.frame) (Ok tt)
