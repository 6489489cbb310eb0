use Rattle.std.proofs.Common.{◌≡◌, ◌++◌, map, take}
use Rattle.aig_certificate.specs.Strengthened.{translated_gate}
use Rattle.aig_certificate.specs.state.Table.{literal_by}
use Rattle.aig_certificate.proofs.parts.push_gates.Given as goal

abbrev pub invariant-loop-gate : goal.invariant-loop-gate
invariant-loop-gate l =
    l.to ≡ l.initial.to ++ map (translated_gate (literal_by l.translation.table)) (take l.gate-index l.gates)
