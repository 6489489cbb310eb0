use Rattle.std.proofs.Common.{◌+◌, ◌*◌, refl, arith}
use Rattle.aig_values.specs.Characters.{character}
use Rattle.aig_values.specs.state.Words.{group_value}
use Rattle.aig_values.proofs.WordText.{characters_of_groups, four_there, group_character}
use Rattle.aig_values.proofs.row.plane_row.spell_group.Goals as goal

pub returns-clause-there : goal.returns-clause-there
unfolding characters_of_groups
returns-clause-there c =
    let group = c.args.group in
    four_there c.args.text.now c.args.at _ _ _ _ c.requires.room (λ k. character (group_value group k))
    (group_character _ group 0 (4 * group) refl c.requires.group (omega arith) (omega arith))
    (group_character _ group 1 (4 * group + 1) refl c.requires.group (omega arith) refl)
    (group_character _ group 2 (4 * group + 2) refl c.requires.group (omega arith) refl)
    (group_character _ group 3 (4 * group + 3) refl c.requires.group (omega arith) refl)
