use Rattle.std.proofs.Common.{◌≡◌, ◌<◌, ◌∙◌, length, take, sym, subst, arith}
use Rattle.std.proofs.lemmas.List.{get_or_read}
use Rattle.aig_parts.specs.state.SymbolRanks.{Ranks, AreEntered}
use Rattle.aig_parts.proofs.RankLemmas.{entered_more}
use Rattle.aig_parts.proofs.symbols.ranks.SymbolRanks.enter.Goals as goal

pub loop-place-preserved : goal.loop-place-preserved
loop-place-preserved c =
    let es = c.args.entries.now in
    let place = c.loop-place.place in
    let places = c.self.inside.places.items in
    let ranks : Ranks = record {
      starts = c.self.inside.starts.items;
      words = c.self.inside.words.items;
      before = c.self.inside.before.items;
      places = places;
    } in
    let inside : place < length es = omega (arith, c.loop-place-test.true, c.min-count.ensures) in
    let room : c.number-number.result < length places = omega (arith, c.if-number-len.false, c.len.ensures) in
    let zero : c.index.result.now ≡ 0 = omega (arith, c.if-index-gt0.false) in
    let free = sym (get_or_read places c.number-number.result c.index.result.now room c.index.ensures 0) ∙ zero in
    entered_more ranks es place c.number-number.result _ inside (rw (← c.self.view_is) at c.number-number.ensures) room free
    (subst (λ (r : Ranks). AreEntered r (take place es)) (sym c.self.view_is) c.loop-place.invariant)
