use Rattle.std.proofs.Common.{◌≡◌, take}
use Rattle.aig_base.specs.Value.{start_of}
use Rattle.aig_shell.specs.Session.{own_circuit}
use Rattle.aig_shell.proofs.session.Session.starts_by_reset.Given as goal

abbrev pub invariant-loop-place : goal.invariant-loop-place
invariant-loop-place l = take l.place (start_of l.self.run.bench.pair.circuit) ≡ take l.place (start_of (own_circuit l.self))
