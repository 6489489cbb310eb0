use Rattle.std.proofs.Common.{sym, subst}
use Rattle.aig_base.specs.RenumberingTable.{IsGateListed, gate_by}
use Rattle.aig_base.proofs.renumbered.RenewedGates.{renewed_none, renewed_next, renewed_more, renewed_all}
use Rattle.aig_base.proofs.renumbering.parts.renew_gates.Goals as goal

pub loop-place-init : goal.loop-place-init
loop-place-init c = renewed_none (gate_by c.args.table.now) c.args.gates.now

pub new_gate-requires-clause-listed : goal.new_gate-requires-clause-listed
new_gate-requires-clause-listed c =
    subst (IsGateListed c.args.table.now)
    (sym (renewed_next (gate_by c.args.table.now) _ _ _ _ _ c.index-gates-place.is c.loop-place.invariant))
    (c.requires.listed c.loop-place.place _ c.loop-place-test.true)

pub loop-place-preserved : goal.loop-place-preserved
loop-place-preserved c =
    renewed_more (gate_by c.args.table.now) _ _ _ _ _ _ c.loop-place-test.true c.index-gates-place.is c.new_gate.ensures
    c.loop-place.invariant

pub returns : goal.returns
returns c = renewed_all (gate_by c.args.table.now) _ _ c.loop-place.place c.loop-place-test.false c.loop-place.invariant
