use Rattle.aig_base.specs.RenumberingTable.{gate_by}
use Rattle.aig_base.proofs.renumbered.RenewedGates.{IsRenewedTo}
use Rattle.aig_base.proofs.renumbering.parts.renew_gates.Given as goal

abbrev pub invariant-loop-place : goal.invariant-loop-place
invariant-loop-place l = IsRenewedTo (gate_by l.table) l.initial.gates l.gates l.place
