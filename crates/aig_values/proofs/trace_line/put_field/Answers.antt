use Rattle.std.proofs.Common.{◌≡◌, ℕ, ◌+◌, ◌-◌, ◌∷◌, [], ◌≤◌, length, map, take, drop, ap, ◌∙◌, arith}
use Rattle.std.proofs.lemmas.List.{length-take}
use Rattle.aig_values.specs.TraceText.{literal_character}
use Rattle.aig_bytes.proofs.GatherLemmas.{gathers_then}
use Rattle.aig_values.specs.state.Fields.{literals_of}
use Rattle.aig_values.proofs.GatherLemmas.{span_is, span_more, span_failed, all_gathered}
use Rattle.aig_values.proofs.trace_line.put_field.Goals as goal

pub returns-in_err-put_all : goal.returns-in_err-put_all
returns-in_err-put_all g c =
    let f = literal_character (g.R.Row.cells c.args.row.now) in
    let xs = literals_of c.args.field in
    let i = c.loop-at.at in
    let n = c.min-count.result in
    let fits : i + n ≤ length xs = omega (arith, c.loop-at.invariant.inside, c.min-count.ensures, c.literal_count-size.ensures) in
    let is : c.spell_field.new.text ≡ map f (take (i + n - i) (drop i xs)) = c.spell_field.ensures
    ∙ ap (λ (k : ℕ). map f (take k (drop i xs))) (omega (arith, length-take n c.loop-at.text, c.min-count.ensures, (c.loop-at.auto.text ∙ c.requires.text))) in
    let bytes = span_is f xs i n c.spell_field.new.text c.loop-at.text fits is in
    span_failed f xs i n _ (c.args.end ∷ []) c.loop-at.invariant.gathers bytes c.in_err-put_all.ensures c.from_residual.ensures.0

pub loop-at-preserved : goal.loop-at-preserved
loop-at-preserved g c =
    let f = literal_character (g.R.Row.cells c.args.row.now) in
    let xs = literals_of c.args.field in
    let i = c.loop-at.at in
    let n = c.min-count.result in
    let fits : i + n ≤ length xs = omega (arith, c.loop-at.invariant.inside, c.min-count.ensures, c.literal_count-size.ensures) in
    let is : c.spell_field.new.text ≡ map f (take (i + n - i) (drop i xs)) = c.spell_field.ensures
    ∙ ap (λ (k : ℕ). map f (take k (drop i xs))) (omega (arith, length-take n c.loop-at.text, c.min-count.ensures, (c.loop-at.auto.text ∙ c.requires.text))) in
    let bytes = span_is f xs i n c.spell_field.new.text c.loop-at.text fits is in
    record {
      inside = fits;
      gathers = span_more f xs i n _ c.loop-at.invariant.gathers bytes c.in_ok-put_all.ensures;
    }

pub returns : goal.returns
returns g c =
    let f = literal_character (g.R.Row.cells c.args.row.now) in
    gathers_then (all_gathered f (literals_of c.args.field) c.loop-at.at c.loop-at.invariant.gathers (omega (arith, c.loop-at-test.false)))
    c.put.ensures
