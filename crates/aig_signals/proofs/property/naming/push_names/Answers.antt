use Rattle.std.proofs.Common.{ℕ, List, [], ◌++◌, Contains, length, ap, sym, subst, ◌∙◌, arith}
use Rattle.std.specs.Map.{keys_of}
use Rattle.std.proofs.lemmas.Bool.{eqb-false}
use Rattle.aig_parts.specs.declared.symbols.Kind.{Kind}
use Rattle.aig_base.specs.Selected.{kind_of}
use Rattle.aig_signals.specs.Named.{symbol_of}
use Rattle.aig_signals.proofs.NamedEntries.{name_start, name_fresh, name_more, name_short, name_long}
use Rattle.aig_signals.proofs.property.naming.push_names.Goals as goal

pub loop-position-init : goal.loop-position-init
loop-position-init c = name_start (kind_of c.args.section) c.args.text.now c.args.list.now

pub returns-in_default-clause-fault : goal.returns-in_default-clause-fault
returns-in_default-clause-fault c =
    name_short (kind_of c.args.section) c.args.text.now c.args.list.now c.loop-position.list c.loop-position.rest.now
    c.loop-position.position c.args.count (omega (arith, c.loop-position-test.true)) c.in_default.ensures.none c.loop-position.invariant

pub push_name-requires : goal.push_name-requires
push_name-requires c =
    subst (λ (k : Kind). Contains (keys_of c.loop-position.list) (k, c.loop-position.position) → ⊥) (sym c.kind_of-kind.ensures)
    (name_fresh (kind_of c.args.section) c.args.text.now c.args.list.now c.loop-position.list c.loop-position.rest.now
    c.loop-position.position c.requires c.loop-position.invariant)

pub loop-position-preserved : goal.loop-position-preserved
loop-position-preserved c =
    let kind = kind_of c.args.section in
    name_more kind c.args.text.now c.args.list.now c.loop-position.list c.push_name.new.list c.in-Some.name.now
    c.loop-position.rest.now c.in-Some.after.now c.loop-position.position c.in-Some.ensures.split c.in-Some.ensures.line
    (c.in_ok-push_name.ensures
    ∙ ap (λ (k : Kind). c.loop-position.list ++ symbol_of k c.loop-position.position c.in-Some.name.now) c.kind_of-kind.ensures)
    c.loop-position.invariant

pub returns-else-is_empty-clause-fault : goal.returns-else-is_empty-clause-fault
returns-else-is_empty-clause-fault c =
    name_long (kind_of c.args.section) c.args.text.now c.args.list.now c.loop-position.list c.loop-position.rest.now
    c.loop-position.position c.args.count (omega (arith, c.loop-position-test.false, c.loop-position.auto.position-end))
    (omega (arith, eqb-false (length c.loop-position.rest.now) 0 (sym c.is_empty.ensures ∙ c.if-is_empty.false)))
    c.loop-position.invariant
