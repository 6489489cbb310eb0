use Rattle.std.proofs.Common.{◌≡◌, ℕ, ◌+◌, ◌<◌, List, ◌∷◌, ◌++◌, [], length, take, drop, get_or, sym, ap, ◌∙◌, subst}
use Rattle.std.proofs.Common.{arith}
use Rattle.std.proofs.lemmas.List.{take_more, drop_more, take-append-drop}
use Rattle.std.proofs.lemmas.Option.{get_or_from_slice_get}
use Rattle.aig_bytes.proofs.Results.{known_err}
use Rattle.aig_sim.specs.state.Running.{SimulationStops, SimulationGoesOn}
use Rattle.aig_sim.proofs.SimulationLemmas.{piece_goes_on, goes_on_then, stops_then}
use Rattle.aig_sim.proofs.simulation.Simulation.feed_line.Goals as goal

pub returns-then-length-bytes-clause-ok : goal.returns-then-length-bytes-clause-ok
returns-then-length-bytes-clause-ok g c =
    let s = c.args.self.now in
    let xs = c.args.bytes.now in
    let n = c.take_line-length.result in
    let mid = c.take_line-length.new.self in
    let w = g.W.Write.written c.args.out.now in
    let f = g.W.Write.failures c.args.out.now in
    let e = c.take_line-length.ensures in
    let piece : SimulationGoesOn g.T.Recorder.is_text g.T.Recorder.has_recorded (take n xs) s mid w w f f =
    piece_goes_on s mid (take n xs) w f c.requires.room.0 e.frames e.machine e.recorder c.take_line-length.ensures.no_end e.keeps in
    piece

pub returns-in_err-end_line-clause-err : goal.returns-in_err-end_line-clause-err
returns-in_err-end_line-clause-err g c =
    let s = c.args.self.now in
    let xs = c.args.bytes.now in
    let n = c.take_line-length.result in
    let mid = c.take_line-length.new.self in
    let w = g.W.Write.written c.args.out.now in
    let f = g.W.Write.failures c.args.out.now in
    let e = c.take_line-length.ensures in
    let piece : SimulationGoesOn g.T.Recorder.is_text g.T.Recorder.has_recorded (take n xs) s mid w w f f =
    piece_goes_on s mid (take n xs) w f c.requires.room.0 e.frames e.machine e.recorder c.take_line-length.ensures.no_end e.keeps in
    let lt : n < length xs = omega (arith, c.take_line-length.ensures.bound, c.if-length-bytes.false) in
    let is_end : get_or xs n 0 ≡ 10 = get_or_from_slice_get xs n 10 0 (c.take_line-length.ensures.ended lt) in
    let w' = g.W.Write.written c.end_line.new.out in
    let f' = g.W.Write.failures c.end_line.new.out in
    let fault = c.in_err-end_line.field-0.0 in
    let split : take n xs ++ (10 ∷ drop (n + 1) xs) ≡ xs =
    ap (λ b. take n xs ++ (b ∷ drop (n + 1) xs)) (sym is_end)
    ∙ ap (λ (t : List ℕ). take n xs ++ t) (sym (drop_more xs n 0 lt)) ∙ take-append-drop n xs in
    known_err c.from_residual.result fault (SimulationStops g.T.Recorder.is_text g.T.Recorder.has_recorded xs s w w' f f') c.from_residual.ensures.1
    (subst (λ (bytes : List ℕ). SimulationStops g.T.Recorder.is_text g.T.Recorder.has_recorded bytes s w w' f f' fault) split
    (stops_then (take n xs) (10 ∷ drop (n + 1) xs) s mid w w w' f f f' fault piece
    (c.in_err-end_line.ensures.err (drop (n + 1) xs))))

pub returns-clause-ok : goal.returns-clause-ok
returns-clause-ok g c =
    let s = c.args.self.now in
    let xs = c.args.bytes.now in
    let n = c.take_line-length.result in
    let mid = c.take_line-length.new.self in
    let w = g.W.Write.written c.args.out.now in
    let f = g.W.Write.failures c.args.out.now in
    let e = c.take_line-length.ensures in
    let piece : SimulationGoesOn g.T.Recorder.is_text g.T.Recorder.has_recorded (take n xs) s mid w w f f =
    piece_goes_on s mid (take n xs) w f c.requires.room.0 e.frames e.machine e.recorder c.take_line-length.ensures.no_end e.keeps in
    let lt : n < length xs = omega (arith, c.take_line-length.ensures.bound, c.if-length-bytes.false) in
    let is_end : get_or xs n 0 ≡ 10 = get_or_from_slice_get xs n 10 0 (c.take_line-length.ensures.ended lt) in
    let w' = g.W.Write.written c.end_line.new.out in
    let f' = g.W.Write.failures c.end_line.new.out in
    let bytes : take n xs ++ 10 ∷ [] ≡ take (n + 1) xs =
    ap (λ (b : ℕ). take n xs ++ b ∷ []) (sym is_end) ∙ sym (take_more xs n 0 lt) in
    subst (λ (t : List ℕ). SimulationGoesOn g.T.Recorder.is_text g.T.Recorder.has_recorded t s c.end_line.new.self w w' f f') bytes
    (goes_on_then (take n xs) (10 ∷ []) s mid c.end_line.new.self w w w' f f f' piece c.in_ok-end_line.ensures.ok)
