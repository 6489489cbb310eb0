use Rattle.std.proofs.Common.{ap, ap₂, ◌∙◌}
use Rattle.aig_values.specs.Characters.{character}
use Rattle.aig_values.specs.state.Words.{value_of}
use Rattle.aig_values.proofs.WordLemmas.{literal_cell}
use Rattle.aig_values.proofs.row.plane_row.character_at.Goals as goal

pub returns : goal.returns
returns c =
    c.character_of.ensures
    ∙ ap character (ap₂ value_of c.literal_bits.ensures.one c.literal_bits.ensures.zero
    ∙ literal_cell c.args.words.now c.args.literal c.requires.whole c.requires.cells)
