use Rattle.std.proofs.Common.{sym, ◌∙◌}
use Rattle.std.proofs.lemmas.Result.{IfOk-weaker}
use Rattle.aig_signals.proofs.Meaning.{first_named, further_named, signal_named}
use Rattle.aig_signals.proofs.lookup.literals_by_names.Goals as goal

pub returns-in-Some : goal.returns-in-Some
returns-in-Some c =
    IfOk-weaker c.list_of.result _ _
    (λ found e. e ∙ first_named c.args.circuit.now c.args.name.now _ (sym c.in-Some.is ∙ c.in_ok-first.ensures))
    c.list_of.ensures

pub returns-in-Some-called : goal.returns-in-Some-called
returns-in-Some-called c =
    signal_named c.args.circuit.now c.args.name.now _ (sym c.in_default.is ∙ c.in_ok-first.ensures)
    (sym c.in-Some-called.is ∙ c.in_ok-called.ensures)

pub returns : goal.returns
returns c =
    IfOk-weaker c.list_of-2.result _ _
    (λ found e. e ∙ further_named c.args.circuit.now c.args.name.now _ (sym c.in_default.is ∙ c.in_ok-first.ensures)
    (sym c.in_default-called.is ∙ c.in_ok-called.ensures) c.in_ok-further.ensures)
    c.list_of-2.ensures
