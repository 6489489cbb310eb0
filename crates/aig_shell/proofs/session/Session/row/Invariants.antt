use Rattle.std.proofs.Common.{◌-◌}
use Rattle.aig_shell.specs.Tables.{AreCells}
use Rattle.aig_shell.proofs.session.Session.row.Given as goal

abbrev pub invariant-loop-frame : goal.invariant-loop-frame
invariant-loop-frame l =
    AreCells l.self.run.bench.pair l.literals l.fn.frames.first (l.frame - l.fn.frames.first) l.cells
