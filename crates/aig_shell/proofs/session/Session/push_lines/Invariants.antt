use Rattle.std.proofs.Common.{◌≡◌, ◌++◌, take}
use Rattle.aig_shell.specs.Answers.{standings_text}
use Rattle.aig_shell.proofs.session.Session.push_lines.Given as goal

abbrev pub invariant-loop-position : goal.invariant-loop-position
invariant-loop-position l =
    l.text.items ≡ l.initial.text.items ++ standings_text l.self.run.bench.pair.circuit l.conditions 0 (take l.position l.standings)
