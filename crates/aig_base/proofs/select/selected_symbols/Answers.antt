use Rattle.std.proofs.Common.{◌≡◌, ◌≢◌, ℕ, List, ◌++◌, sym, ap, subst, ◌∙◌, AllPairs}
use Rattle.std.specs.Map.{keys_of}
use Rattle.std.specs.Map.Iter.{deref_pair}
use Rattle.std.proofs.lemmas.Map.Iter.{rest_more}
use Rattle.aig_parts.specs.declared.symbols.Kind.{Kind}
use Rattle.aig_base.specs.Selected.{kept_entries, kept_symbols}
use Rattle.aig_base.proofs.selections.Walks.{sort_fresh, sort_more}
use Rattle.aig_base.proofs.select.selected_symbols.Goals as goal

pub push_symbol-requires-clause-fresh : goal.push_symbol-requires-clause-fresh
push_symbol-requires-clause-fresh c =
    let from = c.args.from in
    let into = c.args.into in
    let next = rest_more (deref_pair {K = Kind × ℕ} {X = List ℕ}) c.loop-entry.entry-iterator c.next.new.self c.next.result
    (c.in-Some.entry, c.in-Some.name) c.in-Some.is c.next.ensures.steps in
    let fresh = sort_fresh from into c.args.positions.now c.args.circuit.now.symbols c.loop-entry.list
    c.loop-entry.entry-iterator c.next.new.self (c.in-Some.entry.now, c.in-Some.name.now) next
    c.max_var-max_var.ensures.circuit.formed.names c.loop-entry.invariant in
    subst (λ (ps : List ℕ). AllPairs (λ x y. x ≢ y) (keys_of c.loop-entry.list
    ++ kept_entries from into ps c.in-Some.entry.now.0 c.in-Some.entry.now.1))
    (sym c.in_ok-places.ensures.numbers) fresh

pub loop-entry-preserved : goal.loop-entry-preserved
loop-entry-preserved c =
    let from = c.args.from in
    let into = c.args.into in
    let next = rest_more (deref_pair {K = Kind × ℕ} {X = List ℕ}) c.loop-entry.entry-iterator c.next.new.self c.next.result
    (c.in-Some.entry, c.in-Some.name) c.in-Some.is c.next.ensures.steps in
    let added : c.push_symbol.new.list ≡ c.loop-entry.list
    ++ kept_symbols from into c.args.positions.now (c.in-Some.entry.now, c.in-Some.name.now) =
    c.in_ok-push_symbol.ensures
    ∙ ap (λ (ps : List ℕ). c.loop-entry.list ++ kept_symbols from into ps (c.in-Some.entry.now, c.in-Some.name.now))
    c.in_ok-places.ensures.numbers in
    sort_more from into c.args.positions.now c.args.circuit.now.symbols c.loop-entry.list c.push_symbol.new.list
    c.loop-entry.entry-iterator c.next.new.self (c.in-Some.entry.now, c.in-Some.name.now) next added c.loop-entry.invariant
