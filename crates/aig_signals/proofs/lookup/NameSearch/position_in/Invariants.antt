use Rattle.std.proofs.Common.{◌≡◌, None}
use Rattle.aig_signals.specs.Lookup.{least, has_name}
use Rattle.aig_signals.proofs.lookup.NameSearch.position_in.Given as goal

abbrev pub invariant-loop-position : goal.invariant-loop-position
invariant-loop-position l = least (has_name l.self.circuit.now l.self.name.now l.rule l.kind) l.position ≡ None
