use Rattle.std.proofs.Common.{◌≡◌, take, map}
use Rattle.aig_parts.specs.Literal.{negation}
use Rattle.aig_signals.proofs.lookup.negated.Given as goal

abbrev pub invariant-loop-literal : goal.invariant-loop-literal
invariant-loop-literal l = l.list ≡ map negation (take l.literal-index l.literals)
