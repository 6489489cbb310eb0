use Rattle.std.proofs.Common.{◌∙◌}
use Rattle.std.proofs.lemmas.Result.{on_ok_weaker}
use Rattle.aig_shell.proofs.words.Definitions.{number_side}
use Rattle.aig_shell.proofs.answers.gate.push_side.Goals as goal

pub returns-in-None : goal.returns-in-None
returns-in-None c =
    on_ok_weaker c.push_number-in-None.result (λ added.
    number_side c.args.circuit.now c.args.literal c.var.result c.from-in-None.result c.args.text.now.items
    c.push_number-in-None.new.text.items c.var.ensures (c.from-in-None.ensures ∙ c.value-in-None.ensures)
    c.in-None.ensures.none added)
    c.push_number-in-None.ensures
