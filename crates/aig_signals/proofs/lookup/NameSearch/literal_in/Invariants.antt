use Rattle.std.proofs.Common.{◌≡◌, drop}
use Rattle.aig_signals.specs.Lookup.{in_sections}
use Rattle.aig_signals.proofs.lookup.NameSearch.literal_in.Given as goal

abbrev pub invariant-loop-kind : goal.invariant-loop-kind
invariant-loop-kind l = in_sections l.self.circuit.now l.self.name.now l.rule (drop l.kind-index l.kinds) ≡ in_sections l.self.circuit.now l.self.name.now l.rule l.kinds
