use Rattle.std.proofs.Common.{◌≡◌, ◌++◌, drop}
use Rattle.std.specs.List.{flat_map}
use Rattle.aig_signals.specs.Bits.{section_bits}
use Rattle.aig_signals.proofs.bits.word_bits.Given as goal

abbrev pub invariant-loop-kind : goal.invariant-loop-kind
invariant-loop-kind l =
    l.bits.items ++ flat_map (section_bits l.circuit l.name) (drop l.kind-index l.kinds)
    ≡ flat_map (section_bits l.circuit l.name) l.kinds
