use Rattle.std.proofs.Common.{◌<◌, length}
use Rattle.aig_sat.specs.checker.Words.{KeepsMet}
use Rattle.aig_sat.proofs.checker.finder.Finder.delete.Given as goal

abbrev pub invariant-loop : goal.invariant-loop
invariant-loop l = record {
  chain : l.chain < length l.self.chains.items;
  met : KeepsMet l.fn.clauses.words.items l.clauses.words.items;
}
