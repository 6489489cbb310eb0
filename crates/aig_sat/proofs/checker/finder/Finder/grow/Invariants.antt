use Rattle.aig_sat.specs.checker.Words.{KeepsMet}
use Rattle.aig_sat.proofs.checker.finder.Finder.grow.Given as goal

abbrev pub invariant-loop-first : goal.invariant-loop-first
invariant-loop-first l = KeepsMet l.initial.clauses.words.items l.clauses.words.items
