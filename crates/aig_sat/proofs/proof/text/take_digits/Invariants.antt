use Rattle.std.proofs.Common.{◌≡◌, ◌<◌, ◌≤◌, ◌^◌, ◌++◌, ℕ, List}
use Rattle.std.specs.Fmt.{decimal}
use Rattle.aig_sat.specs.proof.Steps.{TakesText}
use Rattle.aig_sat.specs.proof.state.Taking.{IsNumber, to_take}
use Rattle.aig_sat.proofs.proof.text.take_digits.Given as goal

abbrev pub invariant-loop-digit : goal.invariant-loop-digit
invariant-loop-digit g l = record {
  count : g.R.Read.failures l.reader ≡ g.R.Read.failures l.fn.reader;
  never_more : to_take (g.R.Read.reads_left l.reader) l.bytes ≤ to_take (g.R.Read.reads_left l.fn.reader) l.fn.bytes;
  some : 0 < l.number;
  bound : l.number < 2 ^ 40;
  number : (digits : List ℕ) × IsNumber l.number (decimal l.first ++ digits)
      × TakesText l.fn.bytes l.bytes (g.R.Read.left l.fn.reader) (g.R.Read.left l.reader) digits;
}

abbrev pub decreases-loop-digit : goal.decreases-loop-digit
decreases-loop-digit g l = to_take (g.R.Read.reads_left l.reader) l.bytes
