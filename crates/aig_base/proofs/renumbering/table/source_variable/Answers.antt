use Rattle.std.proofs.Common.{◌+◌, ◌∙◌, [], sym, ap, length}
use Rattle.aig_base.proofs.renumbered.Renumberings.{nothing, input_variable, latch_renumbered, gate_not_yet}
use Rattle.aig_base.proofs.renumbered.Renumberings.{free_variable}
use Rattle.aig_base.proofs.renumbering.table.source_variable.Goals as goal

pub returns-in-Some-Input : goal.returns-in-Some-Input
returns-in-Some-Input c =
    sym (input_variable c.args.circuit.now c.facts.ensures.sound [] (nothing c.args.circuit.now)
    c.args.variable _ (rw c.in-Some-Input.field-0-is at c.in-Some-Input.ensures.found))

pub returns-in-Some-Latch : goal.returns-in-Some-Latch
returns-in-Some-Latch c =
    ap (λ xs. length xs + c.in-Some-Latch.position + 1) c.inputs.ensures
    ∙ sym (latch_renumbered c.args.circuit.now c.facts.ensures.sound [] (nothing c.args.circuit.now)
    c.args.variable _ (rw c.in-Some-Latch.field-0-is at c.in-Some-Latch.ensures.found))

pub returns-in-Some-Gate : goal.returns-in-Some-Gate
returns-in-Some-Gate c =
    sym (gate_not_yet c.args.circuit.now c.facts.ensures.sound c.args.variable _
    (rw c.in-Some-Gate.field-0-is at c.in-Some-Gate.ensures.found))

pub returns-in-None : goal.returns-in-None
returns-in-None c =
    sym (free_variable c.args.circuit.now c.facts.ensures.sound [] (nothing c.args.circuit.now)
    c.args.variable c.in-None.ensures.none)
