use Rattle.std.proofs.Common.{map}
use Rattle.std.proofs.lemmas.Result.{IfOk-weaker}
use Rattle.aig_parts.specs.Literal.{variable}
use Rattle.aig_base.specs.Order.{AreSorted}
use Rattle.aig_values.specs.GateOrder.{IsGateOrder}
use Rattle.aig_values.proofs.GateOrders.{gate_order, gates_sorted}
use Rattle.aig_values.proofs.gate_order.gates_in_order.Goals as goal

pub returns-clause-ready : goal.returns-clause-ready
returns-clause-ready c =
    let raw = c.args.circuit.now in
    IfOk-weaker c.sorted_gates.result (λ gates. AreSorted raw gates.items) (λ gates. IsGateOrder raw gates.items)
    (λ gates sorted. gate_order raw c.facts.ensures (map (λ g. variable g.lhs) gates.items) gates.items
    sorted.order (gates_sorted raw gates.items sorted))
    c.sorted_gates.ensures
