use Rattle.std.proofs.Common.{◌≡◌, ◌++◌, take}
use Rattle.std.specs.List.{flat_map}
use Rattle.aig_format.specs.Spelling.{gate_deltas}
use Rattle.aig_format.proofs.writer.binary.push_gates.Given as goal

abbrev pub invariant-loop-count : goal.invariant-loop-count
invariant-loop-count l = l.block ≡ l.initial.block ++ flat_map gate_deltas (take l.count l.gates)
