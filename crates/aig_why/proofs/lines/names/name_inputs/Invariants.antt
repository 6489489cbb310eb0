use Rattle.std.proofs.Common.{◌≡◌, take}
use Rattle.aig_causes.specs.Causes.{moment}
use Rattle.aig_why.specs.Lines.{AreNamed}
use Rattle.aig_why.proofs.lines.names.name_inputs.Given as goal

abbrev pub invariant-loop-position : goal.invariant-loop-position
invariant-loop-position g l = record {
  named : AreNamed l.bench.pair.circuit (moment l.bench.pair l.frame) l.bench.pair.circuit.inputs (take l.position-index l.positions)
      l.naming.values;
  signals : l.naming.signals ≡ l.initial.naming.signals;
}
