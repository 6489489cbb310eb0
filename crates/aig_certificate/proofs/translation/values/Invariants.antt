use Rattle.std.proofs.Common.{◌≡◌, ◌≤◌, ◌+◌, ◌++◌, drop}
use Rattle.aig_certificate.specs.state.Table.{values_from}
use Rattle.aig_certificate.proofs.translation.values.Given as goal

abbrev pub invariant-loop-meaning : goal.invariant-loop-meaning
invariant-loop-meaning l = record {
  next : l.next ≤ l.first + l.meaning-index;
  values : l.values ++ values_from l.next (drop l.meaning-index l.meanings) ≡ values_from l.first l.meanings;
}
