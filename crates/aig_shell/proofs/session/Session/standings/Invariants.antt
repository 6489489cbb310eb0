use Rattle.std.proofs.Common.{take}
use Rattle.aig_shell.specs.Answers.{AreStandings}
use Rattle.aig_shell.specs.Session.{own_circuit}
use Rattle.aig_shell.proofs.session.Session.standings.Given as goal

abbrev pub invariant-loop-position : goal.invariant-loop-position
invariant-loop-position l =
    AreStandings (own_circuit l.self) l.self.run.bench.pair 0 (take l.position l.self.run.bench.pair.circuit.bad) l.standings.items
