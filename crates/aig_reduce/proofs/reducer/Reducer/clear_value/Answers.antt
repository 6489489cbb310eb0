use Rattle.std.proofs.Common.{List, ◌∷◌, sym, subst}
use Rattle.aig_reduce.specs.declared.place.Cleared.{Cleared}
use Rattle.aig_reduce.specs.state.Places.{Undoes}
use Rattle.aig_reduce.proofs.Clearings.{undoes_x}
use Rattle.aig_reduce.proofs.reducer.Reducer.clear_value.Goals as goal

pub returns-clause-undoes : goal.returns-clause-undoes
returns-clause-undoes c = λ raw was e runs h.
    let old = c.args.self.now in
    let new = c.put.new.self in
    let puts = c.put.ensures.puts raw e runs in
    let entry : Cleared = record { place = c.args.place; value = c.get-value.result } in
    subst (λ (es : List Cleared). Undoes es (new.start.items ∷ new.bench.pair.rows) was) (sym c.push_reserved.ensures.items)
    (undoes_x c.args.cleared.now.items (old.start.items ∷ old.bench.pair.rows) (new.start.items ∷ new.bench.pair.rows) was
    entry c.requires.place c.get-value.ensures puts.values h)
