use Rattle.std.proofs.Common.{◌≡◌, ◌≢◌, ◌/◌, ◌<◌, ◌++◌, ◌∷◌, [], ◌∙◌, ℕ, List, length, get_or, set, sym, ap, subst}
use Rattle.std.proofs.Common.{arith}
use denote.Enum.Bare.{sameb}
use Rattle.std.specs.Prelude.{not}
use Rattle.std.proofs.lemmas.Bool.{false≢true}
use Rattle.std.proofs.lemmas.List.{get_or_default}
use Rattle.aig_parts.specs.contracts.ternary.Tern.{the_type}
use Rattle.aig_parts.specs.declared.ternary.Tern.{Tern}
use Rattle.aig_parts.specs.declared.ternary.Tern.TheVariants.{Zero, One, X}
use Rattle.aig_sat.specs.model.Named.{AreNamed}
use Rattle.aig_sat.proofs.models.NamedLemmas.{one_named, zero_named, one_has, zero_has, is_one, is_zero, x_or_one}
use Rattle.aig_sat.proofs.models.NamedLemmas.{x_or_zero, even}
use Rattle.aig_sat.proofs.model.assignment.Assignment.name.Goals as goal

pub returns-then-is_neg-clause-named : goal.returns-then-is_neg-clause-named
returns-then-is_neg-clause-named c free literals h =
    let l = c.args.literal in
    let now = c.args.self.now in
    let items = c.self.inside.values.items in
    let place = c.var-place.result in
    let inside : place < length items = omega (arith, c.var-place.ensures, ap length c.self.view_is, c.requires) in
    let value : c.index.result.now ≡ get_or now (l / 2) X =
    c.index.ensures ∙ get_or_default items place c.index.result.now X inside
    ∙ ap (λ (vs : List Tern). get_or vs place X) c.self.view_is ∙ ap (λ (p : ℕ). get_or now p X) c.var-place.ensures in
    let other : get_or now (l / 2) X ≢ One = λ e.
    false≢true (sym (c.ne.ensures ∙ ap (λ (w : Tern). not (sameb the_type w One)) (value ∙ e)) ∙ free) in
    subst (λ (vs : List Tern). AreNamed (literals ++ l ∷ []) (length now) (set vs place Zero)) (sym c.self.view_is)
    (subst (λ (p : ℕ). AreNamed (literals ++ l ∷ []) (length now) (set now p Zero)) (sym c.var-place.ensures)
    (zero_named literals l now h c.requires (c.is_neg.ensures.0 c.if-is_neg.true) (x_or_zero _ other)))

pub returns-else-is_neg-clause-named : goal.returns-else-is_neg-clause-named
returns-else-is_neg-clause-named c free literals h =
    let l = c.args.literal in
    let now = c.args.self.now in
    let items = c.self.inside.values.items in
    let place = c.var-place.result in
    let inside : place < length items = omega (arith, c.var-place.ensures, ap length c.self.view_is, c.requires) in
    let value : c.index.result.now ≡ get_or now (l / 2) X =
    c.index.ensures ∙ get_or_default items place c.index.result.now X inside
    ∙ ap (λ (vs : List Tern). get_or vs place X) c.self.view_is ∙ ap (λ (p : ℕ). get_or now p X) c.var-place.ensures in
    let other : get_or now (l / 2) X ≢ Zero = λ e.
    false≢true (sym (c.ne-else-is_neg.ensures ∙ ap (λ (w : Tern). not (sameb the_type w Zero)) (value ∙ e)) ∙ free) in
    subst (λ (vs : List Tern). AreNamed (literals ++ l ∷ []) (length now) (set vs place One)) (sym c.self.view_is)
    (subst (λ (p : ℕ). AreNamed (literals ++ l ∷ []) (length now) (set now p One)) (sym c.var-place.ensures)
    (one_named literals l now h c.requires (even l (λ k. false≢true (sym c.if-is_neg.false ∙ c.is_neg.ensures.1 k)))
    (x_or_one _ other)))

pub returns-then-is_neg-clause-refused : goal.returns-then-is_neg-clause-refused
returns-then-is_neg-clause-refused c taken literals h =
    let l = c.args.literal in
    let now = c.args.self.now in
    let items = c.self.inside.values.items in
    let place = c.var-place.result in
    let inside : place < length items = omega (arith, c.var-place.ensures, ap length c.self.view_is, c.requires) in
    let value : c.index.result.now ≡ get_or now (l / 2) X =
    c.index.ensures ∙ get_or_default items place c.index.result.now X inside
    ∙ ap (λ (vs : List Tern). get_or vs place X) c.self.view_is ∙ ap (λ (p : ℕ). get_or now p X) c.var-place.ensures in
    one_has literals (length now) now l h c.requires (sym value ∙ is_one _ (sym c.ne.ensures ∙ taken))
    (c.is_neg.ensures.0 c.if-is_neg.true)

pub returns-else-is_neg-clause-refused : goal.returns-else-is_neg-clause-refused
returns-else-is_neg-clause-refused c taken literals h =
    let l = c.args.literal in
    let now = c.args.self.now in
    let items = c.self.inside.values.items in
    let place = c.var-place.result in
    let inside : place < length items = omega (arith, c.var-place.ensures, ap length c.self.view_is, c.requires) in
    let value : c.index.result.now ≡ get_or now (l / 2) X =
    c.index.ensures ∙ get_or_default items place c.index.result.now X inside
    ∙ ap (λ (vs : List Tern). get_or vs place X) c.self.view_is ∙ ap (λ (p : ℕ). get_or now p X) c.var-place.ensures in
    zero_has literals (length now) now l h c.requires (sym value ∙ is_zero _ (sym c.ne-else-is_neg.ensures ∙ taken))
    (even l (λ k. false≢true (sym c.if-is_neg.false ∙ c.is_neg.ensures.1 k)))
