use Rattle.std.proofs.Common.{◌≡◌, ◌<◌, ◌^◌, replicate, length, Err, refl, sym, ap, ◌∙◌, arith}
use Rattle.aig_parts.specs.declared.raw.Raw.{Raw}
use Rattle.aig_bytes.proofs.WriteLemmas.{writes_same}
use Rattle.aig_sim.specs.declared.witness.fault.WitnessFault.TheVariants.{Memory}
use Rattle.aig_sim.specs.Dump.{signals, IsDump}
use Rattle.aig_sim.specs.DumpHeader.{header}
use Rattle.aig_sim.proofs.ReplayLemmas.{ready_is, not_replayed, replayed, replay_failed}
use Rattle.aig_sim.proofs.ReplayLemmas.{dump_no_header, dump_no_frames, dump_written}
use Rattle.aig_sim.proofs.witness.replay.dump_witness.Goals as goal

pub returns-in_err-parts : goal.returns-in_err-parts
returns-in_err-parts g c =
    not_replayed (λ raw start rows text. IsDump raw start rows text) c.args.circuit.now c.args.text.now g.W.Write.written
    g.W.Write.failures c.args.out.now c.args.out.now c.in_err-parts.field-0.0 c.from_residual.result
    c.from_residual.ensures.1 c.in_err-parts.ensures.fault refl

pub returns-in_err-header : goal.returns-in_err-header
returns-in_err-header g c =
    not_replayed (λ raw start rows text. IsDump raw start rows text) c.args.circuit.now c.args.text.now g.W.Write.written
    g.W.Write.failures c.args.out.now c.args.out.now Memory c.from_residual-in_err-header.result
    c.from_residual-in_err-header.ensures.1 tt refl

pub returns-in_err-recorder : goal.returns-in_err-recorder
returns-in_err-recorder g c =
    not_replayed (λ raw start rows text. IsDump raw start rows text) c.args.circuit.now c.args.text.now g.W.Write.written
    g.W.Write.failures c.args.out.now c.args.out.now Memory c.from_residual-in_err-recorder.result
    c.from_residual-in_err-recorder.ensures.1 tt refl

pub returns-in_err-run : goal.returns-in_err-run
returns-in_err-run g c =
    not_replayed (λ raw start rows text. IsDump raw start rows text) c.args.circuit.now c.args.text.now g.W.Write.written
    g.W.Write.failures c.args.out.now c.args.out.now Memory c.from_residual-in_err-run.result
    c.from_residual-in_err-run.ensures.1 tt refl

pub write_frames-requires-clause-ready : goal.write_frames-requires-clause-ready
write_frames-requires-clause-ready g c =
    let (w, spells, parts, admitted) = c.in_ok-parts.ensures.parts in
    let e = c.in_ok-run.ensures in
    (w, ready_is parts e.circuit e.is_circuit (e.states w parts))

pub returns-in_err-write_all : goal.returns-in_err-write_all
returns-in_err-write_all g c =
    let (w, spells, parts, admitted) = c.in_ok-parts.ensures.parts in
    let e = c.in_ok-run.ensures in
    let ready = ready_is parts e.circuit e.is_circuit (e.states w parts) in
    let is = c.as_slice.ensures.value ∙ c.in_ok-header.ensures ∙ ap header (sym e.circuit) in
    replay_failed (λ raw start rows text. IsDump raw start rows text) w spells admitted e.circuit
    c.from_residual-in_err-write_all.result c.from_residual-in_err-write_all.ensures.1
    (dump_no_header ready {r = Err c.in_err-write_all.field-0.0} (writes_same c.in_err-write_all.ensures is) refl)

pub returns-in_err-write_frames : goal.returns-in_err-write_frames
returns-in_err-write_frames g c =
    let (w, spells, parts, admitted) = c.in_ok-parts.ensures.parts in
    let e = c.in_ok-run.ensures in
    let ready = ready_is parts e.circuit e.is_circuit (e.states w parts) in
    let is = c.as_slice.ensures.value ∙ c.in_ok-header.ensures ∙ ap header (sym e.circuit) in
    let last = c.in_ok-recorder.ensures.last ∙ ap (λ (raw : Raw). replicate (length (signals raw)) 0) (sym e.circuit) in
    replay_failed (λ raw start rows text. IsDump raw start rows text) w spells admitted e.circuit
    c.from_residual-in_err-write_frames.result c.from_residual-in_err-write_frames.ensures.1
    (dump_no_frames ready (writes_same c.in_ok-write_all.ensures is) {r = Err c.in_err-write_frames.field-0.0}
    (c.in_err-write_frames.ensures w ready (record { no_text = refl; none_recorded = last })).text refl)

pub returns-in_err-write_end : goal.returns-in_err-write_end
returns-in_err-write_end g c =
    let (w, spells, parts, admitted) = c.in_ok-parts.ensures.parts in
    let e = c.in_ok-run.ensures in
    let ready = ready_is parts e.circuit e.is_circuit (e.states w parts) in
    let is = c.as_slice.ensures.value ∙ c.in_ok-header.ensures ∙ ap header (sym e.circuit) in
    let last = c.in_ok-recorder.ensures.last ∙ ap (λ (raw : Raw). replicate (length (signals raw)) 0) (sym e.circuit) in
    let few : c.in_ok-parts.parts.frames < 2 ^ 32 = omega (arith, parts.frames_are, admitted.1) in
    replay_failed (λ raw start rows text. IsDump raw start rows text) w spells admitted e.circuit
    c.from_residual-in_err-write_end.result c.from_residual-in_err-write_end.ensures.1
    (dump_written ready (writes_same c.in_ok-write_all.ensures is)
    (c.in_ok-write_frames.ensures w ready (record { no_text = refl; none_recorded = last })).text
    few c.in_err-write_end.ensures)

pub returns : goal.returns
returns g c =
    let (w, spells, parts, admitted) = c.in_ok-parts.ensures.parts in
    let e = c.in_ok-run.ensures in
    let ready = ready_is parts e.circuit e.is_circuit (e.states w parts) in
    let is = c.as_slice.ensures.value ∙ c.in_ok-header.ensures ∙ ap header (sym e.circuit) in
    let last = c.in_ok-recorder.ensures.last ∙ ap (λ (raw : Raw). replicate (length (signals raw)) 0) (sym e.circuit) in
    let few : c.in_ok-parts.parts.frames < 2 ^ 32 = omega (arith, parts.frames_are, admitted.1) in
    replayed (λ raw start rows text. IsDump raw start rows text) w spells admitted e.circuit (tt {0})
    (dump_written ready (writes_same c.in_ok-write_all.ensures is)
    (c.in_ok-write_frames.ensures w ready (record { no_text = refl; none_recorded = last })).text
    few c.in_ok-write_end.ensures)
