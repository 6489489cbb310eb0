use Rattle.std.proofs.Common.{ℕ, ◌<◌, get_or}
use Rattle.aig_sat.specs.checker.Distinct.{Has}
use Rattle.aig_sat.proofs.checker.marks.Marks.put.Given as goal

abbrev pub invariant-loop-literal : goal.invariant-loop-literal
invariant-loop-literal l =
    ((k : ℕ) → k < l.literal-index → Has l.self.literals.items (get_or l.clause k 0))
    × ((m : ℕ) → Has l.self.literals.items m → Has l.clause m)
