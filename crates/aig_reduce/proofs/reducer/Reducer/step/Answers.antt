use Rattle.std.proofs.Common.{inl, inr, suc, ◌+◌, ◌<◌, List, ◌∷◌, length, slice_get, refl, sym, ap, ◌∙◌, arith}
use Rattle.std.proofs.lemmas.Bool.{false≢true}
use Rattle.aig_parts.specs.declared.latch.Latch.{Latch}
use Rattle.aig_reduce.proofs.Clearings.{item_there, no_place, reducing_at, start_within}
use Rattle.aig_reduce.proofs.NeededTries.{reducing_broken, reducing_needed}
use Rattle.aig_reduce.proofs.Tries.{reducing_list, reducing_skips}
use Rattle.aig_reduce.proofs.reducer.Reducer.step.Goals as goal

pub returns-then-not-has-clause-reducing : goal.returns-then-not-has-clause-reducing
returns-then-not-has-clause-reducing c = λ raw given e h.
    let old = c.args.self.now in
    let t = c.args.place.list in
    let p = c.args.place.position in
    reducing_at raw given old.bench.pair old.property old.start.items (t + 1) 0 (suc t) 0 (omega arith) refl
    (reducing_list raw given old.bench.pair old.property old.start.items t p
    (no_place (old.start.items ∷ old.bench.pair.rows) t p (omega (arith, c.requires.list))
    (λ there. false≢true (sym c.if-not-has.true ∙ c.has.ensures.1 there))) h)

pub returns-then-not-has-clause-on : goal.returns-then-not-has-clause-on
returns-then-not-has-clause-on c = inl (omega arith)

pub returns-then-is_fixed-clause-reducing : goal.returns-then-is_fixed-clause-reducing
returns-then-is_fixed-clause-reducing c = λ raw given e h.
    let old = c.args.self.now in
    let t = c.args.place.list in
    let p = c.args.place.position in
    let place = c.has.ensures.0 c.if-not-has.false in
    let (none, fixed) = c.is_fixed.ensures.fixed c.if-is_fixed.true in
    let lt : p < length old.start.items = start_within old.start.items old.bench.pair.rows t p none place in
    let (x, at) = item_there raw.latches p (omega (arith, lt, h.runs.confirmed.latches)) in
    reducing_at raw given old.bench.pair old.property old.start.items t (p + 1) 0 (suc p) (sym none) (omega arith)
    (reducing_skips raw given old.bench.pair old.property old.start.items p x lt at
    (fixed x (ap (λ (ls : List Latch). slice_get ls p) (c.deref.ensures.value ∙ e.latches) ∙ at))
    (reducing_at raw given old.bench.pair old.property old.start.items 0 p t p none refl h))

pub returns-then-is_fixed-clause-on : goal.returns-then-is_fixed-clause-on
returns-then-is_fixed-clause-on c = inr (refl, omega arith)

pub returns-then-has-clause-reducing : goal.returns-then-has-clause-reducing
returns-then-has-clause-reducing c = λ raw given e h.
    let old = c.args.self.now in
    let t = c.args.place.list in
    let p = c.args.place.position in
    let needed = c.args.known.now.needed in
    let (w, n, at) = c.has-2.ensures c.if-has.true in
    reducing_at raw given old.bench.pair old.property old.start.items t (p + 1) t (suc p) refl (omega arith)
    (reducing_needed raw given (needed.start.items ∷ needed.rows.rows) e.needed old.property h.property_is t p w at n
    old.bench.pair old.start.items (c.has.ensures.0 c.if-not-has.false) h)

pub returns-then-has-clause-on : goal.returns-then-has-clause-on
returns-then-has-clause-on c = inr (refl, omega arith)

pub breaks-requires : goal.breaks-requires
breaks-requires c =
    let (raw, given, e, h) = c.requires.reducing in
    omega (arith, e.readers, h.runs.resets.size)

pub returns-then-breaks-clause-reducing : goal.returns-then-breaks-clause-reducing
returns-then-breaks-clause-reducing c = λ raw given e h.
    let old = c.args.self.now in
    let t = c.args.place.list in
    let p = c.args.place.position in
    reducing_at raw given old.bench.pair old.property old.start.items t (p + 1) t (suc p) refl (omega arith)
    (reducing_broken raw given c.args.known.now.needed.cells.rows e.cells old.bench.pair old.property old.start.items t p
    (c.has.ensures.0 c.if-not-has.false) (c.breaks.ensures c.if-breaks.true) h)

pub returns-then-breaks-clause-on : goal.returns-then-breaks-clause-on
returns-then-breaks-clause-on c = inr (refl, omega arith)
