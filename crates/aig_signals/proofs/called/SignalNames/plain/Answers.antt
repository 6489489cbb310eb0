use Rattle.std.proofs.Common.{IfNone, IfSome, ◌≢◌, ℕ, decimal, sym, subst, ◌∙◌}
use Rattle.std.proofs.lemmas.Result.{IfOk-weaker}
use Rattle.aig_parts.specs.Literal.{variable}
use Rattle.aig_parts.specs.declared.raw.Raw.{Raw}
use Rattle.aig_base.specs.Sections.{IsDefined}
use Rattle.aig_signals.proofs.Meaning.{plain_called, plain_numbered, no_name}
use Rattle.aig_signals.proofs.called.SignalNames.plain.Goals as goal

pub returns-in-Some-clause-plain : goal.returns-in-Some-clause-plain
returns-in-Some-clause-plain c =
    plain_called c.args.self.now c.args.name.now _ (sym c.in-Some.is ∙ c.in_ok-called.ensures)

pub returns-in-None-clause-plain : goal.returns-in-None-clause-plain
returns-in-None-clause-plain c =
    IfOk-weaker c.list_of.result _ _
    (λ found e. plain_numbered c.args.self.now c.args.name.now c.literal_of.result found (sym c.in-None.is ∙ c.in_ok-called.ensures)
    c.literal_of.ensures.spelled
    (subst (λ (r : Raw). IfSome c.literal_of.result (λ l. IsDefined r (variable l))) c.self.view_is c.literal_of.ensures.defined) e)
    c.list_of.ensures

pub returns-in-None-clause-none : goal.returns-in-None-clause-none
returns-in-None-clause-none c =
    IfOk-weaker c.list_of.result _ _
    (λ found e. no_name c.args.self.now c.args.name.now c.literal_of.result found (sym c.in-None.is ∙ c.in_ok-called.ensures)
    (subst (λ (r : Raw). IfNone c.literal_of.result ((l : ℕ) → IsDefined r (variable l) → c.args.name.now ≢ decimal l)) c.self.view_is
    c.literal_of.ensures.none) e)
    c.list_of.ensures
