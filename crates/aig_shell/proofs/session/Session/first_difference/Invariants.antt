use Rattle.aig_bench.specs.BenchState.{CircuitAndRows}
use Rattle.aig_signals.specs.declared.signal.Signal.{Signal}
use Rattle.aig_shell.specs.Compared.{AreLiterals, AreSame}
use Rattle.aig_shell.specs.Session.{IsFirst}
use Rattle.aig_shell.proofs.session.Session.first_difference.Given as goal

abbrev pub invariant-loop-frame : goal.invariant-loop-frame
invariant-loop-frame l =
    (signal : Signal) → AreLiterals l.self signal l.literals → (p : CircuitAndRows) → IsFirst l.self p
    → AreSame l.self.run.bench.pair p signal l.first l.frame
