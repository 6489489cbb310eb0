use Rattle.std.proofs.Common.{ap, ◌∙◌}
use Rattle.std.specs.List.{flat_map}
use Rattle.aig_format.specs.Spelling.{literal_line}
use Rattle.aig_bytes.proofs.GatherLemmas.{piece_failed, piece_more, gathers_same}
use Rattle.aig_format.proofs.writer.section.put_justice.Goals as goal

pub returns-in_err-put_literals : goal.returns-in_err-put_literals
returns-in_err-put_literals g c =
    piece_failed (λ p. flat_map literal_line p) c.args.properties.now c.loop-property.property-index c.property-item.result c.loop-property.invariant c.loop-property-test.true
    (gathers_same c.in_err-put_literals.ensures (ap (flat_map literal_line) (c.as_slice.ensures ∙ c.property-item.is))) c.from_residual.ensures.0

pub loop-property-preserved : goal.loop-property-preserved
loop-property-preserved g c =
    piece_more (λ p. flat_map literal_line p) c.args.properties.now c.loop-property.property-index c.property-item.result c.loop-property.invariant c.loop-property-test.true
    (gathers_same c.in_ok-put_literals.ensures (ap (flat_map literal_line) (c.as_slice.ensures ∙ c.property-item.is)))
