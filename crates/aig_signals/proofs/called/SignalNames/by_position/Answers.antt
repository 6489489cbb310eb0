use Rattle.std.proofs.Common.{◌≡◌, IfOk, sym, ap, subst, ◌∙◌}
use Rattle.std.specs.Prelude.{option_copied}
use Rattle.std.proofs.lemmas.Result.{IfOk-weaker}
use Rattle.aig_parts.specs.declared.raw.Raw.{Raw}
use Rattle.aig_signals.specs.declared.lookup.Rule.TheVariants as rule
use Rattle.aig_signals.specs.Lookup.{literals_by}
use Rattle.aig_signals.proofs.CalledLemmas.{there}
use Rattle.aig_signals.proofs.called.SignalNames.by_position.Goals as goal

pub returns-in-Some : goal.returns-in-Some
returns-in-Some c =
    let raw = c.self.inside.circuit.now in
    let name = c.args.name.now in
    let known = there (λ f. f ≡ literals_by raw name rule.Position) _ c.in-Some.found.now
    (sym c.get.ensures.value ∙ ap option_copied c.in-Some.is) (c.self.invariant.3 name) in
    subst (λ (r : Raw). IfOk c.copy_found.result (λ found. found ≡ literals_by r name rule.Position)) c.self.view_is
    (IfOk-weaker c.copy_found.result _ _ (λ found e. e ∙ known) c.copy_found.ensures)

pub returns-in-None : goal.returns-in-None
returns-in-None c =
    subst (λ (r : Raw). IfOk c.literal_placed.result (λ found. found ≡ literals_by r c.args.name.now rule.Position)) c.self.view_is
    c.literal_placed.ensures
