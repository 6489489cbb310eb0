use Rattle.std.proofs.Common.{ℕ, List, ◌++◌, Option, ap, subst, ◌∙◌}
use Rattle.std.specs.Map.Iter.{deref_pair}
use Rattle.std.proofs.lemmas.Map.Iter.{rest_more}
use Rattle.std.proofs.lemmas.Result.{err_from_is_err_and}
use Rattle.aig_parts.specs.declared.symbols.Kind.{Kind}
use Rattle.aig_parts.specs.SymbolPlaces.{Key}
use Rattle.aig_certificate.specs.Strengthened.{model_entry}
use Rattle.aig_certificate.specs.state.Names.{RefusesNames, with_name}
use Rattle.aig_certificate.proofs.Naming.{naming_more, naming_refused}
use Rattle.aig_certificate.proofs.symbols.add_model_names.Goals as goal

pub loop-entry-preserved : goal.loop-entry-preserved
loop-entry-preserved c =
    let next = rest_more (deref_pair {K = Kind × ℕ} {X = List ℕ}) c.loop-entry.entry-iterator c.next.new.self c.next.result
    (c.in-Some.entry, c.in-Some.name) c.in-Some.is c.next.ensures.steps in
    naming_more (model_entry c.args.property) c.args.list.now c.args.model.now.symbols c.loop-entry.list c.add_name.new.list
    c.loop-entry.entry-iterator c.next.new.self (c.in-Some.entry.now, c.in-Some.name.now) next
    (c.in_ok-add_name.ensures.added
    ∙ ap (λ (o : Option Key). c.loop-entry.list ++ with_name o c.in-Some.name.now) c.model_entry.ensures)
    c.loop-entry.invariant

pub returns-in_err-add_name-clause-refused : goal.returns-in_err-add_name-clause-refused
returns-in_err-add_name-clause-refused c =
    let p = err_from_is_err_and c.from_residual.result c.from_residual.ensures.1 in
    let next = rest_more (deref_pair {K = Kind × ℕ} {X = List ℕ}) c.loop-entry.entry-iterator c.next.new.self c.next.result
    (c.in-Some.entry, c.in-Some.name) c.in-Some.is c.next.ensures.steps in
    rw (p.1, p.2) (naming_refused (model_entry c.args.property) c.args.list.now c.args.model.now.symbols c.loop-entry.list
    c.loop-entry.entry-iterator c.next.new.self (c.in-Some.entry.now, c.in-Some.name.now) c.in_err-add_name.field-0.0 next
    (subst (λ (o : Option Key). RefusesNames (c.loop-entry.list ++ with_name o c.in-Some.name.now) c.in_err-add_name.field-0.0)
    c.model_entry.ensures c.in_err-add_name.ensures.refused) c.loop-entry.invariant)
