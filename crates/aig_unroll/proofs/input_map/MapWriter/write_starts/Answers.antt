use Rattle.std.proofs.Common.{◌+◌, ◌∙◌, ◌<◌, ◌≤◌, List, ap, arith, drop, get_or, length}
use Rattle.std.specs.Prelude.{option_copied}
use Rattle.aig_parts.specs.declared.latch.Latch.{Latch}
use Rattle.aig_unroll.specs.InputMap.{start, start_origins}
use Rattle.aig_unroll.specs.state.MapLines.{is_kept_start}
use Rattle.aig_unroll.proofs.KeptLines.{midway_done, midway_few, midway_more, midway_stops, starts_end, starts_few, starts_step}
use Rattle.aig_unroll.proofs.input_map.MapWriter.write_starts.Goals as goal

pub write_start_of-requires : goal.write_start_of-requires
write_start_of-requires g c =
    let map = c.args.self.now in
    let few = midway_few (option_copied map.marks) map.prefix.now map.circuit.now c.loop-place.invariant in
    let size = starts_few (option_copied map.marks) map.prefix.now map.circuit.now in
    omega (arith, few, size, c.facts.ensures.formed.counts.latches, c.requires)

pub returns-in_err-position : goal.returns-in_err-position
returns-in_err-position g c =
    let map = c.args.self.now in
    let raw = map.circuit.now in
    let i = c.loop-place.place in
    let x = c.latch-item.result in
    let lt : i < length raw.latches = omega (arith, c.loop-place-test.true, ap (λ (xs : List Latch). length xs) c.latches-latch-items.ensures) in
    midway_stops (option_copied map.marks) map.prefix.now raw (start i) (start_origins (i + 1) (drop (i + 1) raw.latches))
    (is_kept_start (option_copied map.marks) x) c.loop-place.invariant
    (starts_step (option_copied map.marks) map.prefix.now raw i x lt
    (c.latch-item.is ∙ ap (λ (xs : List Latch). get_or xs i x) c.latches-latch-items.ensures))
    c.in_err-position.ensures.written c.from_residual.ensures.0

pub loop-place-preserved : goal.loop-place-preserved
loop-place-preserved g c =
    let map = c.args.self.now in
    let raw = map.circuit.now in
    let i = c.loop-place.place in
    let x = c.latch-item.result in
    let lt : i < length raw.latches = omega (arith, c.loop-place-test.true, ap (λ (xs : List Latch). length xs) c.latches-latch-items.ensures) in
    midway_more (option_copied map.marks) map.prefix.now raw (start i) (start_origins (i + 1) (drop (i + 1) raw.latches))
    (is_kept_start (option_copied map.marks) x) c.loop-place.invariant
    (starts_step (option_copied map.marks) map.prefix.now raw i x lt
    (c.latch-item.is ∙ ap (λ (xs : List Latch). get_or xs i x) c.latches-latch-items.ensures))
    c.in_ok-position.ensures.next c.in_ok-position.ensures.written

pub returns : goal.returns
returns g c =
    let map = c.args.self.now in
    let raw = map.circuit.now in
    let le : length raw.latches ≤ c.loop-place.place =
    omega (arith, c.loop-place-test.false, ap (λ (xs : List Latch). length xs) c.latches-latch-items.ensures) in
    midway_done (option_copied map.marks) map.prefix.now raw tt c.loop-place.invariant
    (starts_end (option_copied map.marks) map.prefix.now raw c.loop-place.place le)
