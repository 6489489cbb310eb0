use Rattle.std.proofs.Common.{◌≡◌, ◌-◌, ℕ, List, length, take, drop, length-drop, sym, ap, subst, arith}
use Rattle.std.proofs.lemmas.List.{take-append-drop, take_all}
use Rattle.std.proofs.Math.Seq.{take-add}
use Rattle.aig_bytes.proofs.Results.{known_err}
use Rattle.aig_sim.specs.state.Running.{SimulationStops, SimulationGoesOn}
use Rattle.aig_sim.proofs.SimulationLemmas.{goes_on_then, stops_then}
use Rattle.aig_sim.proofs.simulation.Simulation.feed.Goals as goal

pub returns-in_err-at-clause-err : goal.returns-in_err-at-clause-err
returns-in_err-at-clause-err g c =
    let s = c.args.self.now in
    let xs = c.args.chunk.now in
    let i = c.loop-at.at in
    let rest : take (length xs - i) (drop i xs) ≡ drop i xs =
    take_all (length xs - i) (drop i xs) (omega (arith, length-drop i xs)) in
    let w = g.W.Write.written c.args.out.now in
    let f = g.W.Write.failures c.args.out.now in
    let v = g.W.Write.written c.loop-at.out in
    let h = g.W.Write.failures c.loop-at.out in
    let w' = g.W.Write.written c.feed_line.new.out in
    let f' = g.W.Write.failures c.feed_line.new.out in
    let fault = c.in_err-at.field-0.0 in
    known_err c.from_residual.result fault (SimulationStops g.T.Recorder.is_text g.T.Recorder.has_recorded xs s w w' f f') c.from_residual.ensures.1
    (subst (λ (bytes : List ℕ). SimulationStops g.T.Recorder.is_text g.T.Recorder.has_recorded bytes s w w' f f' fault) (take-append-drop i xs)
    (stops_then (take i xs) (drop i xs) s c.loop-at.self w v w' f h f' fault c.loop-at.invariant.goes_on
    (subst (λ (t : List ℕ). SimulationStops g.T.Recorder.is_text g.T.Recorder.has_recorded t c.loop-at.self v w' h f' fault) rest c.in_err-at.ensures.err)))

pub loop-at-preserved : goal.loop-at-preserved
loop-at-preserved g c =
    let s = c.args.self.now in
    let xs = c.args.chunk.now in
    let i = c.loop-at.at in
    let rest : take (length xs - i) (drop i xs) ≡ drop i xs =
    take_all (length xs - i) (drop i xs) (omega (arith, length-drop i xs)) in
    let w = g.W.Write.written c.args.out.now in
    let f = g.W.Write.failures c.args.out.now in
    let v = g.W.Write.written c.loop-at.out in
    let h = g.W.Write.failures c.loop-at.out in
    let w' = g.W.Write.written c.feed_line.new.out in
    let f' = g.W.Write.failures c.feed_line.new.out in
    let n = c.in_ok-at.field-0 in
    record {
      inside = omega (arith, c.loop-at.invariant.inside, c.in_ok-at.ensures.bound, ap length rest, length-drop i xs);
      room = c.in_ok-at.ensures.room;
      goes_on = subst (λ (t : List ℕ). SimulationGoesOn g.T.Recorder.is_text g.T.Recorder.has_recorded t s c.feed_line.new.self w w' f f') (sym (take-add i n xs))
          (goes_on_then (take i xs) (take n (drop i xs)) s c.loop-at.self c.feed_line.new.self w v w' f h f'
          c.loop-at.invariant.goes_on
          (subst (λ (t : List ℕ). SimulationGoesOn g.T.Recorder.is_text g.T.Recorder.has_recorded (take n t) c.loop-at.self c.feed_line.new.self v w' h f') rest c.in_ok-at.ensures.ok));
    }
