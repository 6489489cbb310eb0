use Rattle.aig_signals.specs.Bits.{section_bits}
use Rattle.aig_signals.proofs.CalledWords.{no_sections, sections_apart, with_end, with_step}
use Rattle.aig_signals.proofs.called.words.note_sections.Goals as goal

pub loop-kind-preserved : goal.loop-kind-preserved
loop-kind-preserved c x =
    with_step _ _ _ _ _ _ _
    (sections_apart (section_bits c.args.circuit.now x) c.args.kinds.now c.loop-kind.kind-index _ c.loop-kind-test.true)
    (c.in_ok-note_section.ensures x) (c.loop-kind.invariant x)

pub returns : goal.returns
returns c x =
    with_end _ _ _ _ (no_sections (section_bits c.args.circuit.now x) c.args.kinds.now c.loop-kind.kind-index c.loop-kind-test.false)
    (c.loop-kind.invariant x)
