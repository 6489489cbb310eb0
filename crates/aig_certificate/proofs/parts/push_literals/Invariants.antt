use Rattle.std.proofs.Common.{◌≡◌, ◌++◌, map, take}
use Rattle.aig_certificate.specs.state.Table.{literal_by}
use Rattle.aig_certificate.proofs.parts.push_literals.Given as goal

abbrev pub invariant-loop-literal : goal.invariant-loop-literal
invariant-loop-literal l = l.to ≡ l.initial.to ++ map (literal_by l.translation.table) (take l.literal-index l.literals)
