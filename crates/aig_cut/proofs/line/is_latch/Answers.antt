use Rattle.aig_cut.proofs.Named.{latch_answer, latch_not_named}
use Rattle.aig_cut.proofs.line.is_latch.Goals as goal

pub returns-in-Some-Latch : goal.returns-in-Some-Latch
returns-in-Some-Latch c =
    latch_answer c.args.circuit.now c.facts.ensures.sound c.args.literal c.var.result c.definition.result c.var.ensures
    c.definition.ensures.found c.definition.ensures.none c.in-Some-Latch.position _ _
    c.index-latches-position.result c.latches.result.now c.latches.ensures (cc) c.value.ensures c.value-in-Some-Latch.ensures

pub returns-in-Some-Input : goal.returns-in-Some-Input
returns-in-Some-Input c =
    latch_not_named c.args.circuit.now c.facts.ensures.sound c.args.literal c.var.result c.definition.result c.var.ensures
    c.definition.ensures.found c.definition.ensures.none (λ q e. cc)

pub returns-in-Some-Gate : goal.returns-in-Some-Gate
returns-in-Some-Gate c =
    latch_not_named c.args.circuit.now c.facts.ensures.sound c.args.literal c.var.result c.definition.result c.var.ensures
    c.definition.ensures.found c.definition.ensures.none (λ q e. cc)

pub returns-in-None : goal.returns-in-None
returns-in-None c =
    latch_not_named c.args.circuit.now c.facts.ensures.sound c.args.literal c.var.result c.definition.result c.var.ensures
    c.definition.ensures.found c.definition.ensures.none (λ q e. cc)
