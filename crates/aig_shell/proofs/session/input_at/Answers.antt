use Rattle.aig_shell.proofs.words.Literals.{no_input_other, no_input_odd, input_here}
use Rattle.aig_shell.proofs.session.input_at.Goals as goal

pub returns-then-is_neg-clause-none : goal.returns-then-is_neg-clause-none
returns-then-is_neg-clause-none c =
    no_input_odd c.args.circuit.now c.facts.ensures.sound c.args.literal c.var.result c.var.ensures c.definition.result c.definition.ensures.found c.definition.ensures.none
    (c.is_neg.ensures.0 c.if-is_neg.true)

pub returns-else-is_neg-clause-some : goal.returns-else-is_neg-clause-some
returns-else-is_neg-clause-some c =
    input_here c.args.circuit.now c.facts.ensures.sound c.args.literal c.var.result c.var.ensures c.definition.result c.definition.ensures.found
    c.in-Some-Input.position (cc) (λ odd. let e = c.is_neg.ensures.1 odd in let f = c.if-is_neg.false in cc)

pub returns-in-Some-Latch-clause-none : goal.returns-in-Some-Latch-clause-none
returns-in-Some-Latch-clause-none c =
    no_input_other c.args.circuit.now c.facts.ensures.sound c.args.literal c.var.result c.var.ensures c.definition.result c.definition.ensures.found c.definition.ensures.none
    (λ q e. cc)

pub returns-in-Some-Gate-clause-none : goal.returns-in-Some-Gate-clause-none
returns-in-Some-Gate-clause-none c =
    no_input_other c.args.circuit.now c.facts.ensures.sound c.args.literal c.var.result c.var.ensures c.definition.result c.definition.ensures.found c.definition.ensures.none
    (λ q e. cc)

pub returns-in-None-clause-none : goal.returns-in-None-clause-none
returns-in-None-clause-none c =
    no_input_other c.args.circuit.now c.facts.ensures.sound c.args.literal c.var.result c.var.ensures c.definition.result c.definition.ensures.found c.definition.ensures.none
    (λ q e. cc)
