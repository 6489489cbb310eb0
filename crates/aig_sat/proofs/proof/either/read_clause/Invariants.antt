use Rattle.std.proofs.Common.{◌≡◌, ◌≤◌}
use Rattle.aig_sat.specs.proof.Steps.{AreLiterals}
use Rattle.aig_sat.specs.proof.state.Taking.{HasClause, LeadsAll, to_take}
use Rattle.aig_sat.proofs.proof.either.read_clause.Given as goal

abbrev pub invariant-loop-literal : goal.invariant-loop-literal
invariant-loop-literal g l = record {
  count : g.R.Read.failures l.reader ≡ g.R.Read.failures l.fn.reader;
  never_more : to_take (g.R.Read.reads_left l.reader) l.bytes ≤ to_take (g.R.Read.reads_left l.fn.reader) l.fn.bytes;
  literals : AreLiterals 2147483647 l.clause.items;
  spelled : LeadsAll l.spelling l.is_first l.fn.bytes l.bytes (g.R.Read.left l.fn.reader) (g.R.Read.left l.reader)
      l.clause.items;
  goes_on : HasClause l.spelling l.is_first l.fn.bytes (g.R.Read.left l.fn.reader)
      → HasClause l.spelling l.is_first l.bytes (g.R.Read.left l.reader);
}

abbrev pub decreases-loop-literal : goal.decreases-loop-literal
decreases-loop-literal g l = to_take (g.R.Read.reads_left l.reader) l.bytes
