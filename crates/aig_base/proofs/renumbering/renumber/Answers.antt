use Rattle.std.proofs.Common.{◌≡◌, ◌∙◌, List, ℕ, map}
use Rattle.aig_parts.specs.declared.raw.Raw.{Raw}
use Rattle.aig_base.specs.Circuit.{IsCircuit}
use Rattle.aig_base.specs.Order.{IsCanonicalOrder}
use Rattle.aig_base.specs.Renumbered.{renumbered}
use Rattle.aig_base.specs.RenumberingTable.{IsRenumbering, IsGateListed, renumbered_by}
use Rattle.aig_base.specs.state.LeastFaulty.{gate_variable}
use Rattle.aig_base.proofs.renumbered.RenewedGates.{each_sorted, ordered_sorted}
use Rattle.aig_base.proofs.renumbered.RenumberedCircuit.{renumbered_circuit}
use Rattle.aig_base.proofs.renumbered.RenumberedParts.{all_listed, renumbered_same}
use Rattle.aig_base.proofs.renumbered.RenumberedReady.{renumbered_ready}
use Rattle.aig_base.proofs.renumbering.renumber.Goals as goal

-- the parts that were built
built : (raw : Raw) → IsCircuit raw → (order table : List ℕ) → IsCanonicalOrder raw order
    → IsRenumbering raw order table
    → (parts : Raw) → parts ≡ renumbered_by raw order table → parts ≡ renumbered raw order
built raw circuit order table canonical so parts is =
    is ∙ renumbered_same raw order table so (all_listed raw circuit.formed circuit.sound order table canonical so)

pub renumbered_parts-requires-clause-listed : goal.renumbered_parts-requires-clause-listed
renumbered_parts-requires-clause-listed c =
    let circuit = c.facts.ensures in
    let so = rw c.deref.ensures.value at c.in_ok-table.ensures in
    rw c.deref-2.ensures.value
    (all_listed c.args.circuit.now circuit.formed circuit.sound (map gate_variable c.in_ok-gates.gates.items)
    c.in_ok-table.table.items c.in_ok-gates.ensures.order so)

pub renumbered_parts-requires-clause-gates : goal.renumbered_parts-requires-clause-gates
renumbered_parts-requires-clause-gates c =
    let circuit = c.facts.ensures in
    let so = rw c.deref.ensures.value at c.in_ok-table.ensures in
    rw c.deref-2.ensures.value
    (each_sorted (IsGateListed c.in_ok-table.table.items) c.args.circuit.now c.in_ok-gates.gates.items
    (all_listed c.args.circuit.now circuit.formed circuit.sound (map gate_variable c.in_ok-gates.gates.items)
    c.in_ok-table.table.items c.in_ok-gates.ensures.order so).gates c.in_ok-gates.ensures)

pub renumbered_parts-requires-clause-sorted : goal.renumbered_parts-requires-clause-sorted
renumbered_parts-requires-clause-sorted c =
    ordered_sorted c.args.circuit.now c.facts.ensures.sound c.in_ok-gates.gates.items
    c.in_ok-gates.ensures

pub of_ready-requires-clause-circuit : goal.of_ready-requires-clause-circuit
of_ready-requires-clause-circuit c =
    let circuit = c.facts.ensures in
    let order = map gate_variable c.in_ok-gates.gates.items in
    let so = rw c.deref.ensures.value at c.in_ok-table.ensures in
    let is = rw c.deref-2.ensures.value at c.in_ok-parts.ensures in
    let same = built c.args.circuit.now circuit order c.in_ok-table.table.items c.in_ok-gates.ensures.order so
    c.in_ok-parts.parts is in
    rw same (renumbered_circuit c.args.circuit.now circuit order c.in_ok-gates.ensures.order)

pub of_ready-requires-clause-ready : goal.of_ready-requires-clause-ready
of_ready-requires-clause-ready c =
    let circuit = c.facts.ensures in
    let order = map gate_variable c.in_ok-gates.gates.items in
    let so = rw c.deref.ensures.value at c.in_ok-table.ensures in
    let is = rw c.deref-2.ensures.value at c.in_ok-parts.ensures in
    let same = built c.args.circuit.now circuit order c.in_ok-table.table.items c.in_ok-gates.ensures.order so
    c.in_ok-parts.parts is in
    rw same (renumbered_ready c.args.circuit.now circuit.sound order c.in_ok-gates.ensures.order circuit.acyclic)

pub returns-clause-parts : goal.returns-clause-parts
returns-clause-parts c =
    let circuit = c.facts.ensures in
    let order = map gate_variable c.in_ok-gates.gates.items in
    let so = rw c.deref.ensures.value at c.in_ok-table.ensures in
    let is = rw c.deref-2.ensures.value at c.in_ok-parts.ensures in
    let same = built c.args.circuit.now circuit order c.in_ok-table.table.items c.in_ok-gates.ensures.order so
    c.in_ok-parts.parts is in
    (order, c.in_ok-gates.ensures.order, c.of_ready.ensures ∙ same)

pub returns-clause-ready : goal.returns-clause-ready
returns-clause-ready c =
    let circuit = c.facts.ensures in
    let order = map gate_variable c.in_ok-gates.gates.items in
    let so = rw c.deref.ensures.value at c.in_ok-table.ensures in
    let is = rw c.deref-2.ensures.value at c.in_ok-parts.ensures in
    let same = built c.args.circuit.now circuit order c.in_ok-table.table.items c.in_ok-gates.ensures.order so
    c.in_ok-parts.parts is in
    let e = c.of_ready.ensures ∙ same in
    rw e (renumbered_ready c.args.circuit.now circuit.sound order c.in_ok-gates.ensures.order circuit.acyclic)
