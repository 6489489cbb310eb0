use Rattle.std.proofs.Common.{length, subst, arith}
use Rattle.std.proofs.lemmas.List.{get_or-take, length-take}
use Rattle.aig_sim.specs.StimulusText.{IsCharacter}
use Rattle.aig_sim.proofs.WitnessLemmas.{row_is_characters, row_is_long}
use Rattle.aig_sim.proofs.witness.read_values.Goals as goal

pub value_by-requires : goal.value_by-requires
value_by-requires c =
    let text = c.args.text.now in
    let width = length c.args.values.now in
    let place = c.loop-place.place in
    let lt = c.loop-place-test.true in
    let long = row_is_long width text c.requires in
    subst IsCharacter (get_or-take width text place 0 lt)
    (row_is_characters width text c.requires place 0 (omega (arith, lt, long, length-take width text)))
