use Rattle.std.proofs.Common.{ℕ, List, sym, subst}
use Rattle.aig_base.specs.Changes.{with_appended_gate}
use Rattle.aig_base.specs.state.Definitions.{IsDefinitionTable}
use Rattle.aig_base.proofs.growth.Appended.{more_in_order, more_table}
use Rattle.aig_base.proofs.circuit.definitions.Definitions.append_gate.Goals as goal

pub returns-in-Listed : goal.returns-in-Listed
returns-in-Listed c raw r0 r1 is describes =
    let h = rw c.in-Listed.is at describes in
    subst (λ (ns : List ℕ). IsDefinitionTable (with_appended_gate raw r0 r1) ns) (sym c.push_reserved.ensures.items)
    (more_table raw r0 r1 c.in-Listed.table.items c.args.number is h)

pub returns-in-InOrder : goal.returns-in-InOrder
returns-in-InOrder c raw r0 r1 is describes =
    rw c.in-InOrder.is (more_in_order raw r0 r1 (rw c.in-InOrder.is at describes))
