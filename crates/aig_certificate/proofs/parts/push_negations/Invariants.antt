use Rattle.std.proofs.Common.{◌≡◌, ◌++◌, map, take}
use Rattle.aig_parts.specs.Literal.{negation}
use Rattle.aig_certificate.specs.state.Table.{literal_by}
use Rattle.aig_certificate.proofs.parts.push_negations.Given as goal

abbrev pub invariant-loop-literal : goal.invariant-loop-literal
invariant-loop-literal l =
    l.to ≡ l.initial.to ++ map (λ x. negation (literal_by l.translation.table x)) (take l.literal-index l.literals)
