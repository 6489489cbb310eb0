use Rattle.std.proofs.Common.{◌≡◌, IfOk, sym, ap, subst, ◌∙◌}
use Rattle.std.specs.Prelude.{option_copied}
use Rattle.std.proofs.lemmas.Result.{IfOk-weaker}
use Rattle.aig_parts.specs.declared.raw.Raw.{Raw}
use Rattle.aig_signals.specs.state.Called.{by_names}
use Rattle.aig_signals.proofs.CalledLemmas.{there}
use Rattle.aig_signals.proofs.called.SignalNames.by_names.Goals as goal

pub returns-in-Some : goal.returns-in-Some
returns-in-Some c =
    let raw = c.self.inside.circuit.now in
    let name = c.args.name.now in
    let known = there (λ f. f ≡ by_names raw name) _ c.in-Some.found.now (sym c.get.ensures.value ∙ ap option_copied c.in-Some.is)
    (c.self.invariant.1 name) in
    subst (λ (r : Raw). IfOk c.copy_found.result (λ found. found ≡ by_names r name)) c.self.view_is
    (IfOk-weaker c.copy_found.result _ _ (λ found e. e ∙ known) c.copy_found.ensures)

pub literals_by_names-requires : goal.literals_by_names-requires
literals_by_names-requires c = c.self.invariant.0

pub returns-in-None : goal.returns-in-None
returns-in-None c =
    subst (λ (r : Raw). IfOk c.literals_by_names.result (λ found. found ≡ by_names r c.args.name.now)) c.self.view_is
    c.literals_by_names.ensures
