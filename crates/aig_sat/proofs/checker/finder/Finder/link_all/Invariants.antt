use Rattle.aig_sat.specs.checker.Words.{KeepsMet}
use Rattle.aig_sat.proofs.checker.finder.Finder.link_all.Given as goal

abbrev pub invariant-loop-place : goal.invariant-loop-place
invariant-loop-place l = KeepsMet l.initial.clauses.words.items l.clauses.words.items
