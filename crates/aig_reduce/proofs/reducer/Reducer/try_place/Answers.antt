use Rattle.std.proofs.Common.{inr, suc, ◌+◌, ◌∷◌, refl, sym, ◌∙◌, arith}
use Rattle.std.proofs.lemmas.Bool.{false≢true}
use Rattle.aig_reduce.proofs.Clearings.{at_place, place_shaped, reducing_at}
use Rattle.aig_reduce.proofs.reducer.Reducer.try_place.Goals as goal

pub try_value-requires-clause-place : goal.try_value-requires-clause-place
try_value-requires-clause-place c =
    let (raw, given, e, h) = c.requires.reducing in
    let old = c.args.self.now in
    let new = c.try_ranges-reached.new.self in
    let k = c.try_ranges-reached.ensures.reducing raw given e h in
    place_shaped (new.start.items ∷ new.bench.pair.rows) (old.start.items ∷ old.bench.pair.rows) c.args.place.list
    c.args.place.position (k.tried.shape ∙ sym h.tried.shape) c.requires.place

pub try_value-requires-clause-reducing : goal.try_value-requires-clause-reducing
try_value-requires-clause-reducing c =
    let (raw, given, e, h) = c.requires.reducing in
    let new = c.try_ranges-reached.new.self in
    let place = c.args.place in
    let reached = c.try_ranges-reached.result in
    let (t_is, p_is) = at_place place.list place.position reached.list reached.position c.try_ranges-reached.ensures.on
    (λ before. false≢true (sym c.if-is_before.false ∙ c.is_before.ensures.1 before)) in (
      raw,
      given,
      c.deref.ensures.value ∙ e.latches,
      reducing_at raw given new.bench.pair new.property new.start.items place.list place.position reached.list reached.position
          t_is p_is (c.try_ranges-reached.ensures.reducing raw given e h),
    )

pub returns-then-is_before-clause-on : goal.returns-then-is_before-clause-on
returns-then-is_before-clause-on c = c.is_before.ensures.0 c.if-is_before.true

pub returns-clause-reducing : goal.returns-clause-reducing
returns-clause-reducing c = λ raw given e h.
    let now = c.try_ranges-reached.new.self in
    let new = c.try_value.new.self in
    let place = c.args.place in
    let reached = c.try_ranges-reached.result in
    let (t_is, p_is) = at_place place.list place.position reached.list reached.position c.try_ranges-reached.ensures.on
    (λ before. false≢true (sym c.if-is_before.false ∙ c.is_before.ensures.1 before)) in
    reducing_at raw given new.bench.pair new.property new.start.items place.list (place.position + 1) place.list
    (suc place.position) refl (omega arith)
    (c.try_value.ensures raw given (c.deref.ensures.value ∙ e.latches)
    (reducing_at raw given now.bench.pair now.property now.start.items place.list place.position reached.list reached.position
    t_is p_is (c.try_ranges-reached.ensures.reducing raw given e h)))

pub returns-clause-on : goal.returns-clause-on
returns-clause-on c = inr (refl, omega arith)
