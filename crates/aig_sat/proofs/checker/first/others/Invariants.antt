use Rattle.std.proofs.Common.{◌≡◌, ℕ, Bool, true}
use Rattle.aig_sat.specs.checker.Clause.{meets}
use Rattle.aig_sat.specs.checker.First.{MeetsOther}
use Rattle.aig_sat.proofs.checker.first.others.Given as goal

abbrev pub invariant-loop-literal : goal.invariant-loop-literal
invariant-loop-literal l =
    (values : ℕ → Bool) → meets values l.resolvent.items ≡ true → MeetsOther values l.literals l.lie
