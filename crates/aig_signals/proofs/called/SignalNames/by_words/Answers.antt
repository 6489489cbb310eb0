use Rattle.std.proofs.Common.{◌≡◌, IfOk, sym, ap, subst, ◌∙◌}
use Rattle.std.specs.Prelude.{option_copied}
use Rattle.std.proofs.lemmas.Result.{IfOk-weaker}
use Rattle.aig_parts.specs.declared.raw.Raw.{Raw}
use Rattle.aig_signals.specs.Bits.{bits_named}
use Rattle.aig_signals.proofs.CalledLemmas.{there}
use Rattle.aig_signals.proofs.called.SignalNames.by_words.Goals as goal

pub returns-in-Some : goal.returns-in-Some
returns-in-Some c =
    let raw = c.self.inside.circuit.now in
    let name = c.args.name.now in
    let known = there (λ f. f ≡ bits_named raw name) _ c.in-Some.found.now (sym c.get.ensures.value ∙ ap option_copied c.in-Some.is)
    (c.self.invariant.2 name) in
    subst (λ (r : Raw). IfOk c.copy_found.result (λ found. found ≡ bits_named r name)) c.self.view_is
    (IfOk-weaker c.copy_found.result _ _ (λ found e. e ∙ known) c.copy_found.ensures)

pub returns-in-None : goal.returns-in-None
returns-in-None c =
    subst (λ (r : Raw). IfOk c.literals_of_words.result (λ found. found ≡ bits_named r c.args.name.now)) c.self.view_is
    c.literals_of_words.ensures
