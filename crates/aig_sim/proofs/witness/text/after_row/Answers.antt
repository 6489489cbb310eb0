use Rattle.std.proofs.Common.{◌≡◌, ◌+◌, ◌-◌, ◌∷◌, ◌++◌, map, take, drop, length, sym, ap, ◌∙◌, arith}
use Rattle.std.specs.Prelude.{List, ℕ}
use Rattle.std.proofs.lemmas.List.{length-take, length-drop, take_all}
use Rattle.std.proofs.lemmas.Bool.{false≢true}
use Rattle.aig_values.specs.Characters.{character}
use Rattle.aig_sim.proofs.WitnessLemmas.{row_is_characters, row_is}
use Rattle.aig_sim.proofs.witness.text.after_row.Goals as goal

pub returns-then-not-are_characters-clause-none : goal.returns-then-not-are_characters-clause-none
returns-then-not-are_characters-clause-none c = λ h.
    false≢true (sym c.if-not-are_characters.true ∙ c.are_characters.ensures.1 (row_is_characters c.args.width c.args.text.now h))

pub returns-clause-some : goal.returns-clause-some
returns-clause-some c =
    let text = c.args.text.now in
    let width = c.args.width in
    let lt = c.if-text-width.false in
    let (row, len, is) = row_is width text lt c.if-text-width-ne10.false
    (c.are_characters.ensures.0 c.if-not-are_characters.false) (omega (arith, lt, length-take width text)) in
    let whole : take (length text - (width + 1)) (drop (width + 1) text) ≡ drop (width + 1) text =
    take_all (length text - (width + 1)) (drop (width + 1) text) (omega (arith, length-drop (width + 1) text)) in
    (row, len, is ∙ ap (λ (t : List ℕ). map character row ++ (10 ∷ t)) (sym whole))
