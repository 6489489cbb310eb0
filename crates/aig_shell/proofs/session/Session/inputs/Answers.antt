use Rattle.std.proofs.Common.{subst}
use Rattle.aig_base.specs.Circuit.{IsCircuit}
use Rattle.aig_shell.proofs.editing.Impossible.{inputs_refused}
use Rattle.aig_shell.proofs.session.Session.inputs.Goals as goal

pub returns-in_default-clause-err : goal.returns-in_default-clause-err
returns-in_default-clause-err c = λ other.
    inputs_refused c.args.self.now.run.bench.pair.circuit (subst IsCircuit c.circuit.ensures c.facts.ensures) c.args.word.now c.in_ok-literals.literals
    c.in_ok-literals.ensures.ok _ _ c.circuit-2.ensures c.as_slice.ensures (rw c.in_default.is at c.in_ok-found.ensures.none)
