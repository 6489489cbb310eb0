use Rattle.std.proofs.Common.{ap, ◌∙◌}
use Rattle.aig_format.specs.Spelling.{literal_line}
use Rattle.aig_bytes.proofs.GatherLemmas.{piece_failed, piece_more, gathers_same}
use Rattle.aig_format.proofs.writer.section.put_literals.Goals as goal

pub returns-in_err-put_field : goal.returns-in_err-put_field
returns-in_err-put_field g c =
    piece_failed literal_line c.args.literals.now c.loop-literal.literal-index c.literal-item.result c.loop-literal.invariant c.loop-literal-test.true
    (gathers_same c.in_err-put_field.ensures (ap literal_line (c.value.ensures ∙ c.literal-item.is))) c.from_residual.ensures.0

pub loop-literal-preserved : goal.loop-literal-preserved
loop-literal-preserved g c =
    piece_more literal_line c.args.literals.now c.loop-literal.literal-index c.literal-item.result c.loop-literal.invariant c.loop-literal-test.true
    (gathers_same c.in_ok-put_field.ensures (ap literal_line (c.value.ensures ∙ c.literal-item.is)))
