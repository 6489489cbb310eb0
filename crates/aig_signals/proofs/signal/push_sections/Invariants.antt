use Rattle.std.proofs.Common.{◌≡◌, ◌++◌, drop}
use Rattle.std.specs.List.{flat_map}
use Rattle.aig_signals.specs.Signals.{section_signals}
use Rattle.aig_signals.proofs.signal.push_sections.Given as goal

abbrev pub invariant-loop-kind : goal.invariant-loop-kind
invariant-loop-kind l =
    l.signals.items ++ flat_map (section_signals l.circuit) (drop l.kind-index l.kinds)
    ≡ l.fn.signals.items ++ flat_map (section_signals l.circuit) l.kinds
