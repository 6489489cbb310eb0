use Rattle.std.proofs.Common.{List, length, map, ap, ◌∙◌, arith}
use Rattle.aig_parts.specs.declared.ternary.Tern.{Tern}
use Rattle.aig_values.specs.TraceText.{literal_character}
use Rattle.aig_values.specs.state.Words.{spelled}
use Rattle.aig_values.proofs.ContiguousLemmas.{contiguous_fit, contiguous_shown}
use Rattle.aig_values.proofs.WordLemmas.{length-spelled}
use Rattle.aig_values.proofs.row.plane_row.PlaneRowCellRow.spell.Goals as goal

pub spell_cells-requires : goal.spell_cells-requires
spell_cells-requires c =
    let are = c.in-Some.ensures.contiguous in
    let row = c.args.self.now in
    let fit = contiguous_fit c.in-Some.first (length row) c.args.literals.now are c.in-Some.ensures.some c.requires.cells in
    let words = c.self.inside.words.items in
    omega (arith, fit, c.requires.room, ap length c.self.view_is, length-spelled words, ap length c.deref.ensures.value)

pub returns-in-Some : goal.returns-in-Some
returns-in-Some c =
    let literals = c.args.literals.now in
    contiguous_shown (spelled c.deref.result.now) c.in-Some.first literals c.spell_cells.new.text c.in-Some.ensures.contiguous
    (omega (arith, c.spell_cells.auto.text, c.requires.room)) (λ k lt. c.spell_cells.ensures k (omega (arith, c.requires.room)))
    ∙ ap (λ (row : List Tern). map (literal_character row) literals) (ap spelled c.deref.ensures.value ∙ c.self.view_is)

pub spell_each-requires-clause-cells : goal.spell_each-requires-clause-cells
spell_each-requires-clause-cells c k d lt =
    let words = c.self.inside.words.items in
    omega (
      arith,
      c.requires.cells k d lt,
      ap length c.self.view_is,
      length-spelled words,
      ap length c.deref-in-None.ensures.value,
    )

pub returns-in-None : goal.returns-in-None
returns-in-None c =
    c.spell_each.ensures
    ∙ ap (λ (row : List Tern). map (literal_character row) c.args.literals.now) (ap spelled c.deref-in-None.ensures.value ∙ c.self.view_is)
