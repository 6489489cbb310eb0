use Rattle.std.proofs.Common.{◌≡◌, ℕ, List, Option, Some, IfSome, inl, inr, refl, sym, ap, subst, ◌∙◌, map}
use Rattle.std.specs.Global.{Vec}
use Rattle.aig_signals.specs.Property.{IsNumbered}
use Rattle.aig_program.specs.Chosen.{AreEach, AreNamedIn, property_texts}
use Rattle.aig_program.proofs.TextPositions.{each_by, texts_given}
use Rattle.aig_program.proofs.chosen.properties.open_circuit_and_properties.Goals as goal

pub returns-in-Some-clause-named : goal.returns-in-Some-clause-named
returns-in-Some-clause-named g c =
    let section = c.args.section in
    let texts = map (λ text. text.now) c.unwrap_or-texts.result.now in
    let given : texts ≡ property_texts c.args.matches.now =
    texts_given c.texts_of.result _ c.unwrap_or-texts.result _ c.unwrap_or-texts.ensures refl c.texts_of.ensures.held in
    let numbered : AreEach (IsNumbered section) texts c.in-Some.numbers.items =
    subst (λ (found : Option (Vec ℕ)). IfSome found (λ positions. AreEach (IsNumbered section) texts positions.items)) c.in-Some.is
    c.in_ok-numbers.ensures.numbered in
    subst (λ (texts : List (List ℕ)). AreNamedIn section texts c.in_ok-circuit.circuit c.in-Some.numbers.items) given
    (each_by _ _ (λ text p numbered. inl numbered) numbered)

pub returns-clause-named : goal.returns-clause-named
returns-clause-named g c =
    let given : map (λ text. text.now) c.unwrap_or-texts.result.now ≡ property_texts c.args.matches.now =
    texts_given c.texts_of.result _ c.unwrap_or-texts.result _ c.unwrap_or-texts.ensures refl c.texts_of.ensures.held in
    let file = c.bytes.result.now in
    let left = c.into_source.ensures.left ∙ ap (λ (bytes : List ℕ). Some bytes) (sym c.bytes.ensures.bytes) in
    let positions = c.in_ok-positions.positions in
    subst (λ (texts : List (List ℕ)). AreNamedIn c.args.section texts c.into_source.result positions.items) given
    (each_by _ _ (λ text p named. inr (file, left, named)) c.in_ok-positions.ensures.named)
