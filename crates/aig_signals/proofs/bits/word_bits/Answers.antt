use Rattle.aig_signals.specs.Bits.{section_bits}
use Rattle.aig_signals.proofs.SignalLemmas.{sections_more, sections_all}
use Rattle.aig_signals.proofs.bits.word_bits.Goals as goal

pub loop-kind-preserved : goal.loop-kind-preserved
loop-kind-preserved c =
    sections_more (section_bits c.args.circuit.now c.args.name.now) c.loop-kind.bits.items c.push_section.new.bits.items _ c.args.kinds.now
    c.loop-kind.kind-index _ c.loop-kind-test.true c.in_ok-push_section.ensures c.loop-kind.invariant

pub returns : goal.returns
returns c =
    sections_all (section_bits c.args.circuit.now c.args.name.now) c.loop-kind.bits.items _ c.args.kinds.now c.loop-kind.kind-index
    c.loop-kind-test.false c.loop-kind.invariant
