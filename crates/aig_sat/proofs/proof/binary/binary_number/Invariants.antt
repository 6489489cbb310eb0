use Rattle.std.proofs.Common.{◌≡◌, ◌⊎◌, ◌+◌, ◌*◌, ◌-◌, ◌<◌, ◌≤◌, ◌++◌, ℕ, List}
use Rattle.std.specs.Option.{IsSomeAnd}
use Rattle.aig_sat.specs.proof.ProofBytes.{Groups}
use Rattle.aig_sat.specs.proof.Steps.{bytes_to_come}
use Rattle.aig_sat.specs.proof.state.Taking.{NumberToCome, PartToCome, TakesBytes, to_take}
use Rattle.aig_sat.proofs.proof.binary.binary_number.Given as goal

abbrev pub invariant-loop-power : goal.invariant-loop-power
invariant-loop-power g l = record {
  count : g.R.Read.failures l.reader ≡ g.R.Read.failures l.fn.reader;
  never_more : to_take (g.R.Read.reads_left l.reader) l.bytes ≤ to_take (g.R.Read.reads_left l.fn.reader) l.fn.bytes;
  some : 0 < l.power;
  most : l.power ≤ 4398046511104;
  below : l.number < l.power;
  groups : (taken : List ℕ)
      × ((n : ℕ) (rest : List ℕ) → (0 < n) ⊎ (l.power ≡ 1) → Groups n rest → Groups (l.number + l.power * n) (taken ++ rest))
      × TakesBytes l.fn.bytes l.bytes (g.R.Read.left l.fn.reader) (g.R.Read.left l.reader) taken;
  ahead : IsSomeAnd (bytes_to_come l.fn.bytes (g.R.Read.left l.fn.reader)) NumberToCome
      → IsSomeAnd (bytes_to_come l.bytes (g.R.Read.left l.reader)) (PartToCome l.number l.power);
}

abbrev pub decreases-loop-power : goal.decreases-loop-power
decreases-loop-power g l = 4398046511104 - l.power
