use Rattle.std.proofs.Common.{sym, subst}
use Rattle.aig_bytes.specs.Flow.{flow}
use Rattle.aig_parts.specs.declared.raw.Raw.{Raw}
use Rattle.aig_sim.specs.WitnessText.{SpellsWitness}
use Rattle.aig_sim.specs.state.Replaying.{GoesOnAlong, IsReady, NoneReported, ReplaysAndShows}
use Rattle.aig_sim.proofs.witness.replay.replay.Goals as goal

pub judge-requires-clause-ready : goal.judge-requires-clause-ready
judge-requires-clause-ready g c =
    let e = c.in_ok-run.ensures in
    let (w, spells, ready) = e.ready in
    (w, subst (λ (r : Raw). IsReady r w c.in_ok-run.parts c.in_ok-run.run'.machine.states) (sym e.circuit) ready)

pub judge-requires-clause-begins : goal.judge-requires-clause-begins
judge-requires-clause-begins g c w =
    subst (λ (r : Raw). NoneReported g.T.Recorder.is_text g.T.Recorder.has_recorded r w c.args.judging.now.recorder)
    (sym c.in_ok-run.ensures.circuit) (c.requires.begins w)

pub judge-requires-clause-goes_on : goal.judge-requires-clause-goes_on
judge-requires-clause-goes_on g c w =
    subst (λ (r : Raw). GoesOnAlong g.T.Recorder.is_text r w) (sym c.in_ok-run.ensures.circuit) (c.requires.goes_on w)

pub returns : goal.returns
returns g c =
    let e = c.in_ok-run.ensures in
    let (w, spells, ready) = e.ready in
    let text = c.args.text.now in
    subst (λ (r : Raw). SpellsWitness r text w → IsReady r w c.in_ok-run.parts c.in_ok-run.run'.machine.states
    → ReplaysAndShows g.T.Recorder.is_text r text (flow g.W.Write.written g.W.Write.failures c.args.out.now c.judge.new.out)
    c.judge.result) e.circuit (λ s r. c.judge.ensures w text r s) spells ready
