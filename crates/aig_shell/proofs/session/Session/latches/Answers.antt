use Rattle.std.proofs.Common.{subst}
use Rattle.aig_base.specs.Circuit.{IsCircuit}
use Rattle.aig_shell.proofs.editing.Impossible.{latches_refused, latches_found}
use Rattle.aig_shell.proofs.session.Session.latches.Goals as goal

pub returns-then-not-are_latches-clause-err : goal.returns-then-not-are_latches-clause-err
returns-then-not-are_latches-clause-err c = λ other.
    latches_refused c.args.self.now.run.bench.pair.circuit (subst IsCircuit c.circuit.ensures c.facts.ensures) c.args.word.now c.in_ok-literals.literals
    c.in_ok-literals.ensures.ok _ _ c.are_latches.result c.circuit-2.ensures c.as_slice.ensures c.if-not-are_latches.true
    c.are_latches.ensures

pub returns-clause-ok : goal.returns-clause-ok
returns-clause-ok c = (
  c.in_ok-literals.ensures.ok,
  latches_found c.args.self.now.run.bench.pair.circuit c.in_ok-literals.literals _ _ c.are_latches.result c.circuit-2.ensures
      c.as_slice.ensures c.if-not-are_latches.false c.are_latches.ensures,
)
