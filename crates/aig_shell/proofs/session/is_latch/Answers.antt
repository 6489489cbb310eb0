use Rattle.aig_shell.proofs.words.Literals.{latch_other, latch_here}
use Rattle.aig_shell.proofs.session.is_latch.Goals as goal

pub returns-in-Some-Latch : goal.returns-in-Some-Latch
returns-in-Some-Latch c =
    latch_here c.args.circuit.now c.facts.ensures.sound c.args.literal c.var.result c.var.ensures c.definition.result c.definition.ensures.found c.definition.ensures.none
    c.in-Some-Latch.field-0-0 (cc) c.is_neg.result c.is_neg.ensures

pub returns-in-Some-Input : goal.returns-in-Some-Input
returns-in-Some-Input c =
    latch_other c.args.circuit.now c.facts.ensures.sound c.args.literal c.var.result c.var.ensures c.definition.result c.definition.ensures.found c.definition.ensures.none (λ q e. cc)

pub returns-in-Some-Gate : goal.returns-in-Some-Gate
returns-in-Some-Gate c =
    latch_other c.args.circuit.now c.facts.ensures.sound c.args.literal c.var.result c.var.ensures c.definition.result c.definition.ensures.found c.definition.ensures.none (λ q e. cc)

pub returns-in-None : goal.returns-in-None
returns-in-None c =
    latch_other c.args.circuit.now c.facts.ensures.sound c.args.literal c.var.result c.var.ensures c.definition.result c.definition.ensures.found c.definition.ensures.none (λ q e. cc)
