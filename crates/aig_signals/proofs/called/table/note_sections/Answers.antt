use Rattle.aig_signals.proofs.CalledLemmas.{found_end, found_step, sections_end, sections_split}
use Rattle.aig_signals.proofs.called.table.note_sections.Goals as goal

pub loop-kind-preserved : goal.loop-kind-preserved
loop-kind-preserved c x =
    found_step _ _ _ _ _ _ _
    (sections_split c.args.circuit.now x c.args.rule c.args.kinds.now c.loop-kind.kind-index _ c.loop-kind-test.true)
    (c.in_ok-note_section.ensures x) (c.loop-kind.invariant x)

pub returns : goal.returns
returns c x =
    found_end _ _ _ _ (sections_end c.args.circuit.now x c.args.rule c.args.kinds.now c.loop-kind.kind-index c.loop-kind-test.false)
    (c.loop-kind.invariant x)
