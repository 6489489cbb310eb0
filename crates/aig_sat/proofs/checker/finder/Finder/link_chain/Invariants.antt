use Rattle.aig_sat.specs.checker.Words.{KeepsMet}
use Rattle.aig_sat.proofs.checker.finder.Finder.link_chain.Given as goal

abbrev pub invariant-loop : goal.invariant-loop
invariant-loop l = KeepsMet l.initial.clauses.words.items l.clauses.words.items
