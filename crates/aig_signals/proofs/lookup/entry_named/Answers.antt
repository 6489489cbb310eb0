use Rattle.std.proofs.Common.{sym, ◌∙◌}
use Rattle.std.proofs.lemmas.Result.{IfOk-weaker}
use Rattle.aig_signals.proofs.EntryLemmas.{entry_first, entry_further, entry_last}
use Rattle.aig_signals.proofs.lookup.entry_named.Goals as goal

pub returns-in-Some-clause-named : goal.returns-in-Some-clause-named
returns-in-Some-clause-named c =
    entry_first c.args.circuit.now c.args.name.now c.args.kind _ (sym c.in-Some.is ∙ c.in_ok-first.ensures.named)

pub returns-in-Some-further-clause-named : goal.returns-in-Some-further-clause-named
returns-in-Some-further-clause-named c =
    entry_further c.args.circuit.now c.args.name.now c.args.kind _ (sym c.in_default.is ∙ c.in_ok-first.ensures.named)
    (sym c.in-Some-further.is ∙ c.in_ok-further.ensures.named)

pub returns-clause-named : goal.returns-clause-named
returns-clause-named c =
    IfOk-weaker c.position_in-3.result _ _
    (λ found e. entry_last c.args.circuit.now c.args.name.now c.args.kind found (sym c.in_default.is ∙ c.in_ok-first.ensures.named)
    (sym c.in_default-further.is ∙ c.in_ok-further.ensures.named) e)
    c.position_in-3.ensures.named
