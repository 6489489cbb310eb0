use Rattle.std.proofs.Common.{◌-◌}
use Rattle.aig_bench.specs.BenchState.{CircuitAndRows}
use Rattle.aig_shell.specs.Compared.{AreLiterals}
use Rattle.aig_shell.specs.Session.{IsFirst}
use Rattle.aig_shell.proofs.tables.Columns.{AreColumns}
use Rattle.aig_shell.proofs.session.Session.two_rows.Given as goal

abbrev pub invariant-loop-frame : goal.invariant-loop-frame
invariant-loop-frame l =
    AreLiterals l.self l.signal l.literals → (p : CircuitAndRows) → IsFirst l.self p
    → AreColumns l.self.run.bench.pair p l.signal l.first (l.frame - l.first) l.above l.below
