use Rattle.std.proofs.Common.{inr, refl, sym, ◌∙◌, arith}
use Rattle.std.proofs.lemmas.Bool.{false≢true}
use Rattle.aig_reduce.proofs.Clearings.{at_place, reducing_at}
use Rattle.aig_reduce.proofs.Tries.{reducing_frames}
use Rattle.aig_reduce.proofs.reducer.Reducer.try_ranges.Goals as goal

pub sizes-init : goal.sizes-init
sizes-init c = record { reducing = λ raw given e h. h }

pub try_range-place-requires-clause-list : goal.try_range-place-requires-clause-list
try_range-place-requires-clause-list c =
    let (raw, given, e, h) = c.requires.reducing in
    let old = c.args.self.now in
    let now = c.sizes.self in
    omega (
      arith,
      c.requires.list,
      reducing_frames raw given old.bench.pair old.property old.start.items _ _ h,
      reducing_frames raw given now.bench.pair now.property now.start.items _ _ (c.sizes.invariant.reducing raw given e h),
    )

pub try_range-place-requires-clause-reducing : goal.try_range-place-requires-clause-reducing
try_range-place-requires-clause-reducing c =
    let (raw, given, e, h) = c.requires.reducing in (raw, given, e, c.sizes.invariant.reducing raw given e h)

pub sizes-preserved : goal.sizes-preserved
sizes-preserved c =
    let new = c.try_range-place.new.self in
    let from = c.args.from in
    let reached = c.try_range-place.result in
    record {
      reducing = λ raw given e h.
          let (t_is, p_is) = at_place from.list from.position reached.list reached.position c.try_range-place.ensures.on
          (λ before. false≢true (sym c.if-is_before.false ∙ c.is_before.ensures.1 before)) in
          reducing_at raw given new.bench.pair new.property new.start.items from.list from.position reached.list reached.position
          t_is p_is (c.try_range-place.ensures.reducing raw given e (c.sizes.invariant.reducing raw given e h));
    }

pub returns-then-is_before-clause-reducing : goal.returns-then-is_before-clause-reducing
returns-then-is_before-clause-reducing c = λ raw given e h.
    c.try_range-place.ensures.reducing raw given e (c.sizes.invariant.reducing raw given e h)

pub returns-clause-reducing : goal.returns-clause-reducing
returns-clause-reducing c = c.sizes.invariant.reducing

pub returns-clause-on : goal.returns-clause-on
returns-clause-on c = inr (refl, omega arith)
