use Rattle.std.proofs.Common.{◌≡◌, ◌<◌, ◌≤◌, ◌+◌, Some, drop}
use Rattle.aig_format.specs.Spells.{greatest}
use Rattle.aig_format.specs.state.Reading.{number_at, number_then}
use Rattle.aig_format.proofs.reader.buffered_numbers.field_in.Given as goal

abbrev pub invariant-loop-count : goal.invariant-loop-count
invariant-loop-count l = record {
  some : 0 < l.value;
  within : l.value ≤ greatest;
  so_far : number_at greatest (drop l.from l.bytes) ≡ number_then greatest (Some l.value) (drop (l.from + l.count) l.bytes);
}
