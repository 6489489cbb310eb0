use Rattle.std.proofs.Common.{ℕ, List, [], ◌∷◌, ◌++◌, get_or, All, sym, ap, ◌∙◌, subst}
use Rattle.std.proofs.lemmas.List.Elements.{All-cons, All-nil}
use Rattle.aig_parts.specs.declared.symbols.Kind.TheVariants.{Bad}
use Rattle.aig_signals.proofs.Defined.{IsKnown, known_in_range, section_known}
use Rattle.aig_why.proofs.question.Question.of_property.Goals as goal

pub returns-clause-defined : goal.returns-clause-defined
returns-clause-defined c =
    let raw = c.args.circuit.now in
    let l = c.index-bad-property.result in
    let known : IsKnown raw l =
    subst (IsKnown raw) (sym (c.index-bad-property.is ∙ ap (λ (ls : List ℕ). get_or ls c.args.property l) c.bad.ensures))
    (section_known raw c.facts.ensures Bad c.args.property l c.requires) in
    subst (All (IsKnown raw)) (sym (c.in_ok-push.ensures.ok ∙ ap (λ (ls : List ℕ). ls ++ l ∷ []) c.new-literals.ensures))
    (All-cons (IsKnown raw) l [] known (All-nil (IsKnown raw)))

pub returns-clause-range : goal.returns-clause-range
returns-clause-range c = known_in_range c.args.circuit.now c.facts.ensures _ (returns-clause-defined c)
