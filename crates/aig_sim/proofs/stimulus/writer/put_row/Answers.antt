use Rattle.std.proofs.Common.{◌+◌, ◌∷◌, [], ◌≤◌, length, ◌∙◌, arith}
use Rattle.aig_values.specs.Characters.{character}
use Rattle.aig_bytes.proofs.GatherLemmas.{gathers_then}
use Rattle.aig_values.proofs.GatherLemmas.{span_is, same_room, span_more, span_failed, all_gathered}
use Rattle.aig_sim.proofs.stimulus.writer.put_row.Goals as goal

pub returns-in_err-put_all : goal.returns-in_err-put_all
returns-in_err-put_all g c =
    let xs = c.args.row.now in
    let i = c.loop-at.at in
    let n = c.min-count.result in
    let fits : i + n ≤ length xs = omega (arith, c.loop-at.invariant.inside, c.min-count.ensures) in
    let bytes = span_is character xs i n c.spell_values.new.text c.loop-at.piece fits c.spell_values.ensures in
    span_failed character xs i n _ (10 ∷ []) c.loop-at.invariant.gathers bytes c.in_err-put_all.ensures c.from_residual.ensures.0

pub loop-at-preserved : goal.loop-at-preserved
loop-at-preserved g c =
    let xs = c.args.row.now in
    let i = c.loop-at.at in
    let n = c.min-count.result in
    let fits : i + n ≤ length xs = omega (arith, c.loop-at.invariant.inside, c.min-count.ensures) in
    let bytes = span_is character xs i n c.spell_values.new.text c.loop-at.piece fits c.spell_values.ensures in
    record {
      inside = fits;
      room = same_room character xs i n c.spell_values.new.text c.loop-at.piece fits c.spell_values.ensures
          (omega (arith, c.min-count.ensures, c.loop-at.invariant.room)) ∙ c.loop-at.invariant.room;
      gathers = span_more character xs i n _ c.loop-at.invariant.gathers bytes c.in_ok-put_all.ensures;
    }

pub returns : goal.returns
returns g c =
    gathers_then (all_gathered character c.args.row.now c.loop-at.at c.loop-at.invariant.gathers (omega (arith, c.loop-at-test.false)))
    c.put.ensures
