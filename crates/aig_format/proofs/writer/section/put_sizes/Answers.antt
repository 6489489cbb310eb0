use Rattle.std.proofs.Common.{ap, ◌∙◌}
use Rattle.std.proofs.Common.{length}
use Rattle.aig_format.specs.Header.{field}
use Rattle.aig_format.specs.Spelling.{size_line}
use Rattle.aig_bytes.proofs.GatherLemmas.{piece_failed, piece_more, gathers_same}
use Rattle.aig_format.proofs.writer.section.put_sizes.Goals as goal

pub returns-in_err-put_field : goal.returns-in_err-put_field
returns-in_err-put_field g c =
    piece_failed size_line c.args.properties.now c.loop-property.property-index c.property-item.result c.loop-property.invariant c.loop-property-test.true
    (gathers_same c.in_err-put_field.ensures (ap (λ n. field n 10) (c.len.ensures ∙ ap length c.property-item.is))) c.from_residual.ensures.0

pub loop-property-preserved : goal.loop-property-preserved
loop-property-preserved g c =
    piece_more size_line c.args.properties.now c.loop-property.property-index c.property-item.result c.loop-property.invariant c.loop-property-test.true
    (gathers_same c.in_ok-put_field.ensures (ap (λ n. field n 10) (c.len.ensures ∙ ap length c.property-item.is)))
