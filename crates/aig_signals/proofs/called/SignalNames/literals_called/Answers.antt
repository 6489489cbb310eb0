use Rattle.std.proofs.Common.{sym, ◌∙◌}
use Rattle.std.proofs.lemmas.Result.{IfOk-weaker}
use Rattle.aig_signals.proofs.Meaning.{bits_called, last_called, names_called}
use Rattle.aig_signals.proofs.called.SignalNames.literals_called.Goals as goal

pub returns-in-Some : goal.returns-in-Some
returns-in-Some c = names_called c.args.self.now c.args.name.now _ (sym c.in-Some.is ∙ c.in_ok-named.ensures)

pub returns-in-Some-bits : goal.returns-in-Some-bits
returns-in-Some-bits c =
    bits_called c.args.self.now c.args.name.now _ (sym c.in_default.is ∙ c.in_ok-named.ensures) (sym c.in-Some-bits.is ∙ c.in_ok-bits.ensures)

pub returns : goal.returns
returns c =
    IfOk-weaker c.by_position.result _ _
    (λ found e. last_called c.args.self.now c.args.name.now found (sym c.in_default.is ∙ c.in_ok-named.ensures)
    (sym c.in_default-bits.is ∙ c.in_ok-bits.ensures) e)
    c.by_position.ensures
