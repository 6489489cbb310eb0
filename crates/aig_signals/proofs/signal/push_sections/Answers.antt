use Rattle.aig_signals.specs.Signals.{section_signals}
use Rattle.aig_signals.proofs.SignalLemmas.{sections_more, sections_all}
use Rattle.aig_signals.proofs.signal.push_sections.Goals as goal

pub loop-kind-preserved : goal.loop-kind-preserved
loop-kind-preserved c =
    sections_more (section_signals c.args.circuit.now) c.loop-kind.signals.items c.push_section.new.signals.items _ c.args.kinds.now
    c.loop-kind.kind-index _ c.loop-kind-test.true c.in_ok-push_section.ensures c.loop-kind.invariant

pub returns : goal.returns
returns c =
    sections_all (section_signals c.args.circuit.now) c.loop-kind.signals.items _ c.args.kinds.now c.loop-kind.kind-index
    c.loop-kind-test.false c.loop-kind.invariant
