use Rattle.std.proofs.Common.{◌≡◌, List, [], ◌∷◌, sym, ◌∙◌, subst, rules}
use Rattle.aig_parts.specs.declared.ternary.Tern.{Tern}
use Rattle.aig_reduce.specs.declared.place.Cleared.{Cleared}
use Rattle.aig_reduce.specs.state.Places.{Undoes}
use Rattle.aig_reduce.proofs.Clearings.{undoes_last, undoes_none}
use Rattle.aig_reduce.proofs.reducer.Reducer.take_back.Goals as goal

pub put-requires-clause-place : goal.put-requires-clause-place
put-requires-clause-place c =
    let (raw, was, e, runs, u) = c.requires in
    let now = c.loop-last.self in
    let (runs', u') = c.loop-last.invariant.runs raw was e runs u in
    (undoes_last c.pop.new.self.items c.in-Some.last (now.start.items ∷ now.bench.pair.rows) was
    (subst (λ (es : List Cleared). Undoes es (now.start.items ∷ now.bench.pair.rows) was) c.in-Some.ensures.items u')).0

pub put-requires-clause-runs : goal.put-requires-clause-runs
put-requires-clause-runs c =
    let (raw, was, e, runs, u) = c.requires in (raw, e, (c.loop-last.invariant.runs raw was e runs u).0)

pub loop-last-preserved : goal.loop-last-preserved
loop-last-preserved c = record {
  property = c.put.ensures.property ∙ c.loop-last.invariant.property;
  runs = λ raw was e runs u.
      let now = c.loop-last.self in
      let (runs', u') = c.loop-last.invariant.runs raw was e runs u in
      let puts = c.put.ensures.puts raw e runs' in (
        puts.runs,
        subst (λ (values : List (List Tern)). Undoes c.pop.new.self.items values was) (sym puts.values)
            (undoes_last c.pop.new.self.items c.in-Some.last (now.start.items ∷ now.bench.pair.rows) was
            (subst (λ (es : List Cleared). Undoes es (now.start.items ∷ now.bench.pair.rows) was) c.in-Some.ensures.items u')).1,
      );
}

pub returns-clause-runs : goal.returns-clause-runs
returns-clause-runs c = λ raw was e runs u.
    let now = c.loop-last.self in
    let (runs', u') = c.loop-last.invariant.runs raw was e runs u in
    let empty : c.loop-last.cleared.items ≡ [] = search rules in
    (runs', undoes_none c.loop-last.cleared.items (now.start.items ∷ now.bench.pair.rows) was empty u')
