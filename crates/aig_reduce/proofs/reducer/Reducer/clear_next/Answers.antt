use Rattle.std.proofs.Common.{suc, ◌+◌, ◌∷◌, refl, sym, ◌∙◌, arith}
use Rattle.std.proofs.lemmas.Bool.{false≢true}
use Rattle.aig_reduce.proofs.Clearings.{clearing_at, clearing_list, no_place}
use Rattle.aig_reduce.proofs.reducer.Reducer.clear_next.Goals as goal

pub returns-clause-clearing : goal.returns-clause-clearing
returns-clause-clearing c = λ raw given first e h.
    let old = c.args.self.now in
    let t = c.args.place.list in
    let p = c.args.place.position in
    clearing_at raw given old.bench.pair old.property old.start.items first (t + 1) 0 (suc t) 0 (omega arith) refl
    (clearing_list raw given old.property old.bench.pair old.start.items first t p
    (no_place (old.start.items ∷ old.bench.pair.rows) t p (omega (arith, c.if-place-frames.false, c.frames.ensures))
    (λ there. false≢true (sym c.if-has.false ∙ c.has.ensures.1 there))) h)
