use Rattle.std.proofs.Common.{◌≡◌, ◌≤◌, ℕ, List}
use Rattle.aig_sat.specs.proof.Steps.{TakesText}
use Rattle.aig_sat.specs.proof.state.Taking.{LeadsGap, to_take}
use Rattle.aig_sat.proofs.proof.text.skip_gap.Given as goal

abbrev pub invariant-loop : goal.invariant-loop
invariant-loop g l = record {
  count : g.R.Read.failures l.reader ≡ g.R.Read.failures l.fn.reader;
  never_more : to_take (g.R.Read.reads_left l.reader) l.bytes ≤ to_take (g.R.Read.reads_left l.fn.reader) l.fn.bytes;
  gap : (taken : List ℕ) × LeadsGap l.fn.bytes.previous l.bytes.previous taken
      × TakesText l.fn.bytes l.bytes (g.R.Read.left l.fn.reader) (g.R.Read.left l.reader) taken;
}

abbrev pub decreases-loop : goal.decreases-loop
decreases-loop g l = to_take (g.R.Read.reads_left l.reader) l.bytes
