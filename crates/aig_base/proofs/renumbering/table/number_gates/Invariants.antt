use Rattle.std.proofs.Common.{take}
use Rattle.aig_base.specs.RenumberingTable.{IsRenumbering}
use Rattle.aig_base.proofs.renumbering.table.number_gates.Given as goal

abbrev pub invariant-loop-place : goal.invariant-loop-place
invariant-loop-place l = IsRenumbering l.circuit (take l.place l.order) l.table
