use Rattle.std.proofs.Common.{◌+◌, ◌∙◌, ◌<◌, ◌≤◌, List, ℕ, ap, arith, drop, get_or, length}
use Rattle.std.specs.Prelude.{option_copied}
use Rattle.aig_parts.specs.Literal.{variable}
use Rattle.aig_unroll.specs.InputMap.{frame_origins, has_mark, input}
use Rattle.aig_unroll.proofs.KeptLines.{frame_end, frame_size, frame_step, midway_done, midway_few, midway_more, midway_number, midway_stops}
use Rattle.aig_unroll.proofs.input_map.MapWriter.write_frame.Goals as goal

pub write_input_of-requires : goal.write_input_of-requires
write_input_of-requires g c =
    let map = c.args.self.now in
    let few = midway_few (option_copied map.marks) map.prefix.now map.circuit.now c.loop-place.invariant in
    let size = frame_size (option_copied map.marks) map.prefix.now map.circuit.now c.args.frame in
    omega (arith, few, size, c.facts.ensures.formed.counts.inputs, c.requires)

pub returns-in_err-position-clause-written : goal.returns-in_err-position-clause-written
returns-in_err-position-clause-written g c =
    let map = c.args.self.now in
    let raw = map.circuit.now in
    let i = c.loop-place.place in
    let l = c.literal-item.result in
    let lt : i < length raw.inputs = omega (arith, c.loop-place-test.true, ap (λ (ls : List ℕ). length ls) c.inputs-literal-items.ensures) in
    midway_stops (option_copied map.marks) map.prefix.now raw (input c.args.frame i) (drop (i + 1) (frame_origins raw c.args.frame))
    (has_mark (option_copied map.marks) (variable l)) c.loop-place.invariant
    (frame_step (option_copied map.marks) map.prefix.now raw c.args.frame i l lt
    (c.literal-item.is ∙ ap (λ (ls : List ℕ). get_or ls i l) c.inputs-literal-items.ensures))
    c.in_err-position.ensures.written c.from_residual.ensures.0

pub loop-place-preserved : goal.loop-place-preserved
loop-place-preserved g c =
    let map = c.args.self.now in
    let raw = map.circuit.now in
    let i = c.loop-place.place in
    let l = c.literal-item.result in
    let lt : i < length raw.inputs = omega (arith, c.loop-place-test.true, ap (λ (ls : List ℕ). length ls) c.inputs-literal-items.ensures) in
    midway_more (option_copied map.marks) map.prefix.now raw (input c.args.frame i) (drop (i + 1) (frame_origins raw c.args.frame))
    (has_mark (option_copied map.marks) (variable l)) c.loop-place.invariant
    (frame_step (option_copied map.marks) map.prefix.now raw c.args.frame i l lt
    (c.literal-item.is ∙ ap (λ (ls : List ℕ). get_or ls i l) c.inputs-literal-items.ensures))
    c.in_ok-position.ensures.next c.in_ok-position.ensures.written

pub returns-clause-written : goal.returns-clause-written
returns-clause-written g c =
    let map = c.args.self.now in
    let raw = map.circuit.now in
    let le : length raw.inputs ≤ c.loop-place.place =
    omega (arith, c.loop-place-test.false, ap (λ (ls : List ℕ). length ls) c.inputs-literal-items.ensures) in
    midway_done (option_copied map.marks) map.prefix.now raw c.loop-place.position c.loop-place.invariant
    (frame_end (option_copied map.marks) map.prefix.now raw c.args.frame c.loop-place.place le)

pub returns-clause-next : goal.returns-clause-next
returns-clause-next g c =
    let map = c.args.self.now in
    let raw = map.circuit.now in
    let le : length raw.inputs ≤ c.loop-place.place =
    omega (arith, c.loop-place-test.false, ap (λ (ls : List ℕ). length ls) c.inputs-literal-items.ensures) in
    midway_number (option_copied map.marks) map.prefix.now raw c.loop-place.invariant
    (frame_end (option_copied map.marks) map.prefix.now raw c.args.frame c.loop-place.place le)

pub returns-clause-few : goal.returns-clause-few
returns-clause-few g c =
    let map = c.args.self.now in
    let few = midway_few (option_copied map.marks) map.prefix.now map.circuit.now c.loop-place.invariant in
    let size = frame_size (option_copied map.marks) map.prefix.now map.circuit.now c.args.frame in
    omega (arith, few, size, c.facts.ensures.formed.counts.inputs)
