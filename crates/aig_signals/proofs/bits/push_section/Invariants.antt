use Rattle.std.proofs.Common.{◌≡◌, ◌++◌, ◌-◌, length}
use Rattle.std.specs.List.{flat_map, range_with_len}
use Rattle.aig_signals.specs.Bits.{entry_bits, section_bits}
use Rattle.aig_signals.specs.Names.{literals_of}
use Rattle.aig_signals.proofs.bits.push_section.Given as goal

abbrev pub invariant-loop-position : goal.invariant-loop-position
invariant-loop-position l =
    l.bits.items ++ flat_map (entry_bits l.circuit l.name l.kind) (range_with_len l.position (length (literals_of l.circuit l.kind) - l.position))
    ≡ l.fn.bits.items ++ section_bits l.circuit l.name l.kind
