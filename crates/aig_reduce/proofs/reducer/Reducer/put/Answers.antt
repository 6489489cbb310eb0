use Rattle.std.proofs.Common.{◌≡◌, ℕ, ◌-◌, ◌<◌, length, slice_set, refl, sym, ap, subst, arith}
use Rattle.aig_parts.specs.declared.latch.Latch.{Latch}
use Rattle.aig_base.proofs.lists.Items.{item_at}
use Rattle.aig_reduce.specs.state.Reducing.{PutsValue}
use Rattle.aig_reduce.proofs.Clearings.{puts_input, puts_start, runs_length, start_within}
use Rattle.aig_reduce.proofs.Tries.{latch_named}
use Rattle.aig_reduce.proofs.reducer.Reducer.put.Goals as goal

pub put_reset-requires : goal.put_reset-requires
put_reset-requires c =
    let (raw, e, runs) = c.requires.runs in
    let old = c.args.self.now in
    let p = c.args.place.position in
    let first : c.args.place.list ≡ 0 = omega (arith, c.if-place-eq0.true) in
    let lt : p < length old.start.items = start_within old.start.items old.bench.pair.rows c.args.place.list p first c.requires.place in
    let within : p < length c.args.latches.now =
    omega (arith, lt, runs_length raw old.bench.pair old.start.items runs, ap length e) in
    latch_named raw old.bench.pair.circuit p _ c.index-latches-place.result runs.resets
    (item_at c.args.latches.now raw.latches p c.index-latches-place.result e within c.index-latches-place.is)
    (ap (λ (x : Latch). x.lit) c.index-latches-place.is)

pub returns-then-place-eq0 : goal.returns-then-place-eq0
returns-then-place-eq0 c = record {
  property = refl;
  puts = λ raw e runs.
      let old = c.args.self.now in
      let new = c.put_reset.new.bench in
      let p = c.args.place.position in
      let value = c.args.value in
      let first : c.args.place.list ≡ 0 = omega (arith, c.if-place-eq0.true) in
      let lt : p < length old.start.items = start_within old.start.items old.bench.pair.rows c.args.place.list p first c.requires.place in
      let within : p < length c.args.latches.now =
      omega (arith, lt, runs_length raw old.bench.pair old.start.items runs, ap length e) in
      let start = slice_set old.start.items p value in
      subst (λ (n : ℕ). PutsValue raw old.bench.pair old.start.items n p value new.pair start) (sym first)
      (puts_start raw old.bench.pair new.pair old.start.items start p _ c.index-latches-place.result value
      c.put_reset.ensures.before.sound runs
      (item_at c.args.latches.now raw.latches p c.index-latches-place.result e within c.index-latches-place.is)
      (ap (λ (x : Latch). x.lit) c.index-latches-place.is) c.put_reset.ensures.bench refl);
}

pub returns-else-place-eq0 : goal.returns-else-place-eq0
returns-else-place-eq0 c = record {
  property = refl;
  puts = λ raw e runs.
      let old = c.args.self.now in
      puts_input raw old.bench.pair c.put_input.new.bench.pair old.start.items old.start.items c.args.place.list
      (c.args.place.list - 1) c.args.place.position c.args.value runs c.put_input.ensures refl
      (omega (arith, c.if-place-eq0.false));
}
