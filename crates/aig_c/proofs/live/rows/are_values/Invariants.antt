use Rattle.std.proofs.Common.{take}
use Rattle.std.specs.Prelude.{All}
use Rattle.aig_c.specs.Rows.{IsValue}
use Rattle.aig_c.proofs.live.rows.are_values.Given as goal

abbrev pub invariant-loop-number : goal.invariant-loop-number
invariant-loop-number l = All IsValue (take l.number-index l.numbers)
