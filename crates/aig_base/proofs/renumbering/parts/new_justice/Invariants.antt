use Rattle.std.proofs.Common.{◌≡◌, map, take}
use Rattle.aig_base.specs.RenumberingTable.{literal_by}
use Rattle.aig_base.proofs.renumbering.parts.new_justice.Given as goal

abbrev pub invariant-loop-literals : goal.invariant-loop-literals
invariant-loop-literals l = l.new ≡ map (map (literal_by l.table)) (take l.literals-index l.justice)
