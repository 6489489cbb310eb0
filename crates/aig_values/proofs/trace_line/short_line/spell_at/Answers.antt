use Rattle.std.proofs.Common.{ℕ, ◌+◌, ◌<◌, length, take, slice_set, ap, ◌∙◌, arith}
use Rattle.std.proofs.lemmas.List.{length-set}
use Rattle.aig_values.specs.TraceText.{literal_character}
use Rattle.aig_values.specs.state.Fields.{literals_of}
use Rattle.aig_values.proofs.ShortLines.{filled_more}
use Rattle.aig_values.proofs.trace_line.short_line.spell_at.Goals as goal

pub loop-place-preserved : goal.loop-place-preserved
loop-place-preserved g c =
    let text = c.loop-place.text in
    let at = c.args.at in
    let i = c.loop-place.place in
    let inside : at + i < length text = omega (arith, c.loop-place.invariant.size, c.requires.room, c.loop-place-test.true, c.literal_count-size.ensures) in
    record {
      size = length-set text (at + i) c.character.result ∙ c.loop-place.invariant.size;
      filled = ap (λ (b : ℕ). take (at + (i + 1)) (slice_set text (at + i) b)) c.character.ensures
          ∙ filled_more (literal_character (g.R.Row.cells c.args.row.now)) (literals_of c.args.field) text c.args.text.now at i
          c.literal_of.result inside c.literal_of.ensures c.loop-place.invariant.filled;
    }
