use Rattle.std.proofs.Common.{◌*◌, refl, ap, ap₂, ◌∙◌, arith}
use Rattle.aig_values.specs.Characters.{character}
use Rattle.aig_values.specs.state.Words.{value_of}
use Rattle.aig_values.proofs.WordText.{characters_of_groups, group_character}
use Rattle.aig_values.proofs.row.plane_row.character_of.Goals as goal

pub returns : goal.returns
unfolding characters_of_groups
returns c =
    let group = c.group_of.result in
    group_character _ group 0 (4 * group) refl c.group_of.ensures.small (omega arith) (omega arith)
    ∙ ap character (ap₂ value_of (c.group_of.ensures.one 0 (omega arith)) (c.group_of.ensures.zero 0 (omega arith)))
