use Rattle.std.proofs.Common.{suc, ◌+◌, ◌<◌, List, ◌∷◌, length, slice_get, refl, sym, ap, ◌∙◌, arith}
use Rattle.std.proofs.lemmas.Bool.{false≢true}
use Rattle.aig_parts.specs.declared.latch.Latch.{Latch}
use Rattle.aig_reduce.proofs.Clearings.{clearing_at, clearing_fixed, clearing_named, clearing_x, item_there}
use Rattle.aig_reduce.proofs.Clearings.{runs_length, start_within}
use Rattle.aig_reduce.proofs.NeededTries.{clearing_broken, clearing_needed}
use Rattle.aig_reduce.proofs.reducer.Reducer.clear_at.Goals as goal

pub returns-then-is_fixed-clause-clearing : goal.returns-then-is_fixed-clause-clearing
returns-then-is_fixed-clause-clearing c = λ raw given first e h.
    let old = c.args.self.now in
    let p = c.args.place.position in
    let (none, fixed) = c.is_fixed.ensures.fixed c.if-is_fixed.true in
    let lt : p < length old.start.items = start_within old.start.items old.bench.pair.rows c.args.place.list p none c.requires.place in
    let (x, at) = item_there raw.latches p (omega (arith, lt, runs_length raw old.bench.pair old.start.items h.runs)) in
    clearing_at raw given old.bench.pair old.property old.start.items first c.args.place.list (p + 1) 0 (suc p) (sym none)
    (omega arith)
    (clearing_fixed raw given old.property old.bench.pair old.start.items first p x lt at
    (fixed x (ap (λ (ls : List Latch). slice_get ls p) (c.deref.ensures.value ∙ e.latches) ∙ at))
    (clearing_at raw given old.bench.pair old.property old.start.items first 0 p c.args.place.list p none refl h))

pub returns-clause-clearing : goal.returns-clause-clearing
returns-clause-clearing c = λ raw given first e h.
    let old = c.args.self.now in
    let new = c.clear_value.new.self in
    let t = c.args.place.list in
    let p = c.args.place.position in
    clearing_named raw given new.bench.pair new.property old.property new.start.items first t (p + 1)
    c.clear_value.ensures.puts.property
    (clearing_at raw given new.bench.pair old.property new.start.items first t (p + 1) t (suc p) refl (omega arith)
    (clearing_x raw given old.property old.bench.pair old.start.items first t p c.requires.place
    (λ none.
    let (x, at, over) = c.is_fixed.ensures.free (λ yes. false≢true (sym c.if-is_fixed.false ∙ yes)) none in
    (x, ap (λ (ls : List Latch). slice_get ls p) (sym (c.deref.ensures.value ∙ e.latches)) ∙ at, over))
    h new.bench.pair new.start.items (c.clear_value.ensures.puts.puts raw (c.deref-2.ensures.value ∙ e.latches) h.runs)))

pub returns-then-has-clause-clearing : goal.returns-then-has-clause-clearing
returns-then-has-clause-clearing c = λ raw given first e h.
    let old = c.args.self.now in
    let t = c.args.place.list in
    let p = c.args.place.position in
    let needed = c.args.known.now.needed in
    let (w, n, at) = c.has.ensures c.if-has.true in
    clearing_at raw given old.bench.pair old.property old.start.items first t (p + 1) t (suc p) refl (omega arith)
    (clearing_needed raw given (needed.start.items ∷ needed.rows.rows) e.needed old.property h.property_is t p w at n
    old.bench.pair old.start.items first c.requires.place h)

pub breaks-requires : goal.breaks-requires
breaks-requires c =
    let (raw, given, first, e, h) = c.requires.clearing in
    omega (arith, e.readers, h.runs.resets.size)

pub returns-then-breaks-clause-clearing : goal.returns-then-breaks-clause-clearing
returns-then-breaks-clause-clearing c = λ raw given first e h.
    let old = c.args.self.now in
    let t = c.args.place.list in
    let p = c.args.place.position in
    clearing_at raw given old.bench.pair old.property old.start.items first t (p + 1) t (suc p) refl (omega arith)
    (clearing_broken raw given c.args.known.now.needed.cells.rows e.cells old.bench.pair old.property old.start.items first t p
    c.requires.place (c.breaks.ensures c.if-breaks.true) h)
