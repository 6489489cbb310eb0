use Rattle.std.proofs.Common.{◌≡◌, take}
use Rattle.std.specs.Prelude.{map}
use Rattle.aig_c.specs.Rows.{tern_of}
use Rattle.aig_c.proofs.live.rows.terns_of.Given as goal

abbrev pub invariant-loop-number : goal.invariant-loop-number
invariant-loop-number l = l.terns.items ≡ map tern_of (take l.number-index l.numbers)
