use Rattle.std.proofs.Common.{◌≡◌, map}
use Rattle.std.specs.List.{range_with_len}
use Rattle.aig_certificate.specs.Strengthened.{own_position}
use Rattle.aig_certificate.proofs.symbols.own_positions.Given as goal

abbrev pub invariant-loop-meaning : goal.invariant-loop-meaning
invariant-loop-meaning l = record {
  next : l.next ≡ own_position l.first l.meanings l.meaning-index;
  positions : l.positions.items ≡ map (own_position l.first l.meanings) (range_with_len 0 l.meaning-index);
}
