use Rattle.std.proofs.Common.{◌≡◌, ◌+◌, ◌++◌, length}
use Rattle.std.specs.Prelude.{◌*◌}
use Rattle.std.specs.List.{flat_map}
use Rattle.aig_c.proofs.live.rows.rows_of.Given as goal

abbrev pub invariant-loop : goal.invariant-loop
invariant-loop l = record {
  width : l.rows.width ≡ l.width;
  count : length l.rows.rows ≡ l.counter;
  left : length l.rest + l.counter * l.width ≡ l.frames * l.width;
  joined : flat_map (λ row. row) l.rows.rows ++ l.rest ≡ l.terns;
}
