use Rattle.std.proofs.Common.{◌≡◌, ◌≢◌, ◌≤◌, ℕ, List, All}
use Rattle.aig_sat.specs.proof.Steps.{TakesText}
use Rattle.aig_sat.specs.proof.state.Taking.{to_take}
use Rattle.aig_sat.proofs.proof.text.skip_line.Given as goal

abbrev pub invariant-loop-byte : goal.invariant-loop-byte
invariant-loop-byte g l = record {
  count : g.R.Read.failures l.reader ≡ g.R.Read.failures l.fn.reader;
  never_more : to_take (g.R.Read.reads_left l.reader) l.bytes ≤ to_take (g.R.Read.reads_left l.fn.reader) l.fn.bytes;
  line : (line : List ℕ) × All (λ b. b ≢ 10) line
      × TakesText l.fn.bytes l.bytes (g.R.Read.left l.fn.reader) (g.R.Read.left l.reader) line;
}

abbrev pub decreases-loop-byte : goal.decreases-loop-byte
decreases-loop-byte g l = to_take (g.R.Read.reads_left l.reader) l.bytes
