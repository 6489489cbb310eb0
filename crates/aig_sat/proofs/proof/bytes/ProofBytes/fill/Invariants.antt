use Rattle.std.proofs.Common.{◌≡◌, []}
use Rattle.std.specs.Prelude.{false}
use Rattle.aig_sat.specs.proof.Steps.{TakesText}
use Rattle.aig_sat.specs.proof.state.Taking.{TakesBytes}
use Rattle.aig_sat.proofs.proof.bytes.ProofBytes.fill.Given as goal

abbrev pub invariant-loop : goal.invariant-loop
invariant-loop g l = record {
  count : g.R.Read.failures l.reader ≡ g.R.Read.failures l.fn.reader;
  ended : l.self.ended ≡ false;
  text : TakesText l.fn.self l.self (g.R.Read.left l.fn.reader) (g.R.Read.left l.reader) [];
  bytes : TakesBytes l.fn.self l.self (g.R.Read.left l.fn.reader) (g.R.Read.left l.reader) [];
}
