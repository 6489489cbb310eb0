use Rattle.aig_bench.proofs.edits.Named.{none_named, latch_answers, latch_answers_none}
use Rattle.aig_bench.proofs.edit.allowed.latch_position.Goals as goal

pub returns-in-Some-Input-clause-none : goal.returns-in-Some-Input-clause-none
returns-in-Some-Input-clause-none c =
    none_named c.args.circuit.now c.requires c.args.literal c.var.result c.definition.result c.var.ensures
    c.definition.ensures.found c.definition.ensures.none (λ q e. cc)

pub returns-in-Some-Gate-clause-none : goal.returns-in-Some-Gate-clause-none
returns-in-Some-Gate-clause-none c =
    none_named c.args.circuit.now c.requires c.args.literal c.var.result c.definition.result c.var.ensures
    c.definition.ensures.found c.definition.ensures.none (λ q e. cc)

pub returns-in-None-clause-none : goal.returns-in-None-clause-none
returns-in-None-clause-none c =
    none_named c.args.circuit.now c.requires c.args.literal c.var.result c.definition.result c.var.ensures
    c.definition.ensures.found c.definition.ensures.none (λ q e. cc)

pub returns-then-value-clause-latch : goal.returns-then-value-clause-latch
returns-then-value-clause-latch c =
    latch_answers c.args.circuit.now c.requires c.args.literal c.var.result c.definition.result c.var.ensures
    c.definition.ensures.found c.definition.ensures.none c.in-Some-Latch.position _ _ c.index-latches-position.result
    c.latches.result.now c.latches.ensures (cc) c.index-latches-position.is c.value.ensures c.value-in-Some-Latch.ensures
    c.if-value.true

pub returns-else-value-clause-none : goal.returns-else-value-clause-none
returns-else-value-clause-none c =
    latch_answers_none c.args.circuit.now c.requires c.args.literal c.var.result c.definition.result c.var.ensures
    c.definition.ensures.found c.definition.ensures.none c.in-Some-Latch.position _ _ c.index-latches-position.result
    c.latches.result.now c.latches.ensures (cc) c.index-latches-position.is c.value.ensures c.value-in-Some-Latch.ensures
    c.if-value.false
