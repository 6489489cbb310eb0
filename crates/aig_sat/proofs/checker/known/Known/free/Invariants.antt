use Rattle.std.proofs.Common.{ℕ, ◌<◌, get_or}
use Rattle.aig_parts.specs.Literal.{negation}
use Rattle.aig_sat.specs.checker.Knowledge.{IsKnown}
use Rattle.aig_sat.proofs.checker.known.Known.free.Given as goal

abbrev pub invariant-loop-place : goal.invariant-loop-place
invariant-loop-place l = (k : ℕ) → k < l.place → IsKnown l.self.truths.items (negation (get_or l.literals k 0))
