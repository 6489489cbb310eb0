use Rattle.aig_cut.proofs.Named.{gate_answer, gate_not_named}
use Rattle.aig_cut.proofs.line.is_gate.Goals as goal

pub returns-in-Some-Gate : goal.returns-in-Some-Gate
returns-in-Some-Gate c =
    gate_answer c.args.circuit.now c.facts.ensures.sound c.args.literal c.var.result c.definition.result c.var.ensures
    c.definition.ensures.found c.definition.ensures.none c.in-Some-Gate.position _ _
    c.index-gates-position.result c.gates.result.now c.gates.ensures (cc) c.value.ensures c.value-in-Some-Gate.ensures

pub returns-in-Some-Input : goal.returns-in-Some-Input
returns-in-Some-Input c =
    gate_not_named c.args.circuit.now c.facts.ensures.sound c.args.literal c.var.result c.definition.result c.var.ensures
    c.definition.ensures.found c.definition.ensures.none (λ q e. cc)

pub returns-in-Some-Latch : goal.returns-in-Some-Latch
returns-in-Some-Latch c =
    gate_not_named c.args.circuit.now c.facts.ensures.sound c.args.literal c.var.result c.definition.result c.var.ensures
    c.definition.ensures.found c.definition.ensures.none (λ q e. cc)

pub returns-in-None : goal.returns-in-None
returns-in-None c =
    gate_not_named c.args.circuit.now c.facts.ensures.sound c.args.literal c.var.result c.definition.result c.var.ensures
    c.definition.ensures.found c.definition.ensures.none (λ q e. cc)
