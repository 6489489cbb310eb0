use Rattle.std.proofs.Common.{◌≡◌, ℕ, ◌<◌, List, length, Err, Ok, refl, sym, subst, arith}
use Rattle.std.specs.Prelude.{IfNone, IfSome}
use Rattle.aig_parts.specs.declared.raw.Raw.{Raw}
use Rattle.aig_parts.specs.declared.ternary.Tern.{Tern}
use Rattle.aig_sim.specs.declared.witness.verdict.Verdict.{Verdict}
use Rattle.aig_sim.specs.Verdict.{IsVerdict, StartsWrong}
use Rattle.aig_sim.specs.state.Judging.{StartsWrongFirst}
use Rattle.aig_sim.proofs.JudgingLemmas.{judged_run, wrong_first}
use Rattle.aig_sim.proofs.VerdictExists.{shows_so}
use Rattle.aig_sim.proofs.VerdictLemmas.{property_same}
use Rattle.aig_sim.proofs.ReplayLemmas.{begins_judged, not_ok_if, replay_failed, replayed, run_written}
use Rattle.aig_sim.proofs.witness.WitnessRun.judge.Goals as goal

pub write_frames-requires-clause-ready : goal.write_frames-requires-clause-ready
write_frames-requires-clause-ready g c = let (w, h) = c.requires.ready in (w, begins_judged h)

pub returns-in_err-write_frames : goal.returns-in_err-write_frames
returns-in_err-write_frames g c w text h spells =
    let none = c.requires.begins w in
    let frames = c.in_err-write_frames.ensures w (begins_judged h)
    (record { no_text = none.no_text; none_recorded = (none.none_recorded, c.requires.unjudged _ w.start) }) in
    let on = c.requires.goes_on w h.circuit (record { latches = h.parts_are.latches; inputs = h.parts_are.rows_are.widths }) in
    let residual = c.from_residual in
    record {
      text = replay_failed g.T.Recorder.is_text w spells h.admitted refl residual.result residual.ensures.1
          (run_written {r = Err c.in_err-write_frames.field-0.0} on frames.text);
      verdict = not_ok_if _ _ residual.result residual.ensures.1;
    }

pub verdict-requires : goal.verdict-requires
verdict-requires g c =
    let (w, h) = c.requires.ready in
    let none = c.requires.begins w in
    let frames = c.in_ok-write_frames.ensures w (begins_judged h)
    (record { no_text = none.no_text; none_recorded = (none.none_recorded, c.requires.unjudged _ w.start) }) in
    subst (λ (r : Raw). c.args.parts.now.property < length r.bad) (sym frames.circuit)
    (omega (arith, property_same h.circuit h.parts_are h.admitted, h.admitted.0))

pub returns : goal.returns
returns g c w text h spells =
    let raw = c.args.self.now.machine.circuit in
    let none = c.requires.begins w in
    let frames = c.in_ok-write_frames.ensures w (begins_judged h)
    (record { no_text = none.no_text; none_recorded = (none.none_recorded, c.requires.unjudged _ w.start) }) in
    let on = c.requires.goes_on w h.circuit (record { latches = h.parts_are.latches; inputs = h.parts_are.rows_are.widths }) in
    let wrong = c.wrong_start-wrong in
    record {
      text = replayed {A = Verdict} g.T.Recorder.is_text w spells h.admitted refl c.verdict.result (run_written {r = Ok c.in_ok-write_frames.field-0} on frames.text);
      verdict = shows_so raw h.circuit text w spells h.admitted c.verdict.result
          (subst (λ (r : Raw). IsVerdict r w c.verdict.result) frames.circuit
          (c.verdict.ensures w
          (judged_run frames.circuit h.parts_are.some h.admitted.1 frames.run.recorded_are.1 frames.run.cells_are)
          (subst (λ (r : Raw). IfSome wrong.result (StartsWrongFirst r w.start)) (sym frames.circuit)
          (subst (λ (s : List Tern). IfSome wrong.result (StartsWrongFirst raw s)) h.states_are
          (wrong_first _ _ wrong.result wrong.ensures.some wrong.ensures.least)))
          (subst (λ (r : Raw). IfNone wrong.result ((p : ℕ) → StartsWrong r w.start p → ⊥)) (sym frames.circuit)
          (subst (λ (s : List Tern). IfNone wrong.result ((p : ℕ) → StartsWrong raw s p → ⊥)) h.states_are wrong.ensures.none))
          (property_same h.circuit h.parts_are h.admitted)));
    }
