use Rattle.std.proofs.Common.{inl, arith}
use Rattle.aig_base.proofs.circuit.definitions.numbered_definition.Goals as goal

pub returns-then-number-eq0-clause-none : goal.returns-then-number-eq0-clause-none
returns-then-number-eq0-clause-none c = inl (omega arith)
