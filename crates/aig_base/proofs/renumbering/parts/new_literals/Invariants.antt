use Rattle.std.proofs.Common.{◌≡◌, map, take}
use Rattle.aig_base.specs.RenumberingTable.{literal_by}
use Rattle.aig_base.proofs.renumbering.parts.new_literals.Given as goal

abbrev pub invariant-loop-literal : goal.invariant-loop-literal
invariant-loop-literal l = l.new ≡ map (literal_by l.table) (take l.literal-index l.literals)
