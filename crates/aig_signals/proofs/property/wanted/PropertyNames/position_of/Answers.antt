use Rattle.std.proofs.Common.{IfErr, IfOk, inr, sym, ap, subst, ◌∙◌}
use Rattle.std.specs.Prelude.{option_copied}
use Rattle.std.proofs.lemmas.Result.{IfErr-weaker, IfOk-weaker}
use Rattle.aig_signals.specs.Property.{IsPosition, NamesOf, RefusesProperty}
use Rattle.aig_signals.specs.state.Wanted.{IsFound}
use Rattle.aig_signals.proofs.WantedLemmas.{there}
use Rattle.aig_signals.proofs.property.wanted.PropertyNames.position_of.Goals as goal

pub returns-in-Some-get-clause-position : goal.returns-in-Some-get-clause-position
returns-in-Some-get-clause-position c =
    let raw = c.self.inside.circuit.now in
    let section = c.self.inside.section in
    let text = c.args.text.now in
    let known =
    there (IsFound raw section text) _ c.in-Some-get.now.now (sym c.get.ensures.value ∙ ap option_copied c.in-Some-get.is)
    (c.self.invariant text) in
    subst (λ (n : NamesOf). IfOk c.position_found.result (IsPosition n.circuit n.section text)) c.self.view_is
    (IfOk-weaker c.position_found.result _ _ (λ p one. inr (c.in_default.ensures.none, one raw section text known))
    c.position_found.ensures.one)

pub returns-in-Some-get-clause-fault : goal.returns-in-Some-get-clause-fault
returns-in-Some-get-clause-fault c =
    let raw = c.self.inside.circuit.now in
    let section = c.self.inside.section in
    let text = c.args.text.now in
    let known =
    there (IsFound raw section text) _ c.in-Some-get.now.now (sym c.get.ensures.value ∙ ap option_copied c.in-Some-get.is)
    (c.self.invariant text) in
    subst (λ (n : NamesOf). IfErr c.position_found.result (RefusesProperty n.circuit n.section text)) c.self.view_is
    (IfErr-weaker c.position_found.result _ _ (λ fault refuses. (c.in_default.ensures.none, refuses raw section text known))
    c.position_found.ensures.fault)

pub returns-in-None-clause-position : goal.returns-in-None-clause-position
returns-in-None-clause-position c =
    let text = c.args.text.now in
    subst (λ (n : NamesOf). IfOk c.position_named.result (IsPosition n.circuit n.section text)) c.self.view_is
    (IfOk-weaker c.position_named.result _ _ (λ p only. inr (c.in_default.ensures.none, only)) c.position_named.ensures.position)
