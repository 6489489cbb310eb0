use Rattle.std.proofs.Common.{◌≡◌, ℕ, suc, ◌-◌, ◌<◌, length, refl, sym, ap, subst, arith}
use Rattle.aig_base.proofs.lists.Items.{item_at}
use Rattle.aig_reduce.specs.state.Reducing.{TriesPlace}
use Rattle.aig_reduce.proofs.Clearings.{reducing_at, start_within}
use Rattle.aig_reduce.proofs.Tries.{reducing_more}
use Rattle.aig_reduce.proofs.reducer.Reducer.try_value.Goals as goal

pub returns-then-place-eq0 : goal.returns-then-place-eq0
returns-then-place-eq0 c = λ raw given e h.
    let old = c.args.self.now in
    let new = c.try_latch.new.self in
    let t = c.args.place.list in
    let p = c.args.place.position in
    let first : t ≡ 0 = omega (arith, c.if-place-eq0.true) in
    let lt : p < length old.start.items = start_within old.start.items old.bench.pair.rows t p first c.requires.place in
    let within : p < length c.args.latches.now = omega (arith, lt, h.runs.confirmed.latches, ap length e) in
    reducing_at raw given new.bench.pair new.property new.start.items t (suc p) 0 (suc p) (sym first) refl
    (c.try_latch.ensures raw given
    (item_at c.args.latches.now raw.latches p c.index-latches-place.result e within c.index-latches-place.is)
    (reducing_at raw given old.bench.pair old.property old.start.items 0 p t p first refl h))

pub returns-else-place-eq0 : goal.returns-else-place-eq0
returns-else-place-eq0 c = λ raw given e h.
    let old = c.args.self.now in
    let new = c.try_input.new.self in
    let t = c.args.place.list in
    let p = c.args.place.position in
    let same : suc (t - 1) ≡ t = omega (arith, c.if-place-eq0.false) in
    reducing_more raw given old.bench.pair old.property old.start.items new.bench.pair new.property new.start.items t p
    c.requires.place.0 c.requires.place.1 h
    (subst (λ (n : ℕ). TriesPlace raw old.bench.pair old.property old.start.items new.bench.pair new.property new.start.items n p) same
    (c.try_input.ensures raw h.runs))
