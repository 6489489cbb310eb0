use Rattle.std.proofs.Common.{◌≡◌, ℕ, List, ◌+◌, ◌++◌, ap, ◌∙◌, arith}
use Rattle.std.specs.Prelude.{codes, decimal}
use Rattle.aig_prompt.specs.Table.{cell_text}
use Rattle.aig_prompt.proofs.TableLemmas.{places_more, line_end}
use Rattle.aig_prompt.proofs.table.push_head.Goals as goal

pub loop-place-preserved : goal.loop-place-preserved
loop-place-preserved c =
    let same : c.from.result + c.loop-place.place ≡ c.args.first + c.loop-place.place = omega (arith, c.from.ensures) in
    let bytes : c.as_bytes.result.now ≡ decimal (c.args.first + c.loop-place.place) =
    c.as_bytes.ensures.value ∙ c.format.ensures.text ∙ ap decimal same in
    places_more (λ place. cell_text c.args.layout.cell (decimal (c.args.first + place))) c.loop-place.text.items c.push_cell.new.text.items
    _ c.loop-place.place c.args.end c.loop-place-test.true
    (c.in_ok-push_cell.ensures ∙ ap (λ (t : List ℕ). c.loop-place.text.items ++ cell_text c.args.layout.cell t) bytes)
    c.loop-place.invariant

pub returns : goal.returns
returns c =
    line_end c.args.layout.name c.args.layout.cell (codes "frame") (λ place. decimal (c.args.first + place)) c.args.begin c.args.end
    c.loop-place.place c.args.text.now.items c.loop-place.text.items _ c.loop-place-test.false c.loop-place.invariant
    c.in_ok-push.ensures.items
