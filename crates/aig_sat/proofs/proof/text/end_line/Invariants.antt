use Rattle.std.proofs.Common.{◌≡◌, ◌≤◌, ℕ, List, All}
use Rattle.aig_sat.specs.proof.ProofText.{IsBlank}
use Rattle.aig_sat.specs.proof.Steps.{TakesText}
use Rattle.aig_sat.specs.proof.state.Taking.{to_take}
use Rattle.aig_sat.proofs.proof.text.end_line.Given as goal

abbrev pub invariant-loop : goal.invariant-loop
invariant-loop g l = record {
  count : g.R.Read.failures l.reader ≡ g.R.Read.failures l.fn.reader;
  never_more : to_take (g.R.Read.reads_left l.reader) l.bytes ≤ to_take (g.R.Read.reads_left l.fn.reader) l.fn.bytes;
  blanks : (blanks : List ℕ) × All IsBlank blanks
      × TakesText l.fn.bytes l.bytes (g.R.Read.left l.fn.reader) (g.R.Read.left l.reader) blanks;
}

abbrev pub decreases-loop : goal.decreases-loop
decreases-loop g l = to_take (g.R.Read.reads_left l.reader) l.bytes
