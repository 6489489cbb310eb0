use Rattle.std.proofs.Common.{ℕ, List, ◌∙◌}
use Rattle.std.specs.Map.Iter.{deref_pair}
use Rattle.std.proofs.lemmas.Map.Iter.{rest_all, rest_more}
use Rattle.aig_parts.specs.declared.symbols.Kind.{Kind}
use Rattle.aig_base.specs.Selected.{kind_of}
use Rattle.aig_signals.proofs.WantedLemmas.{all_looked, look_begin, look_step}
use Rattle.aig_signals.proofs.property.wanted.look_at_all.Goals as goal

pub loop-entry-init : goal.loop-entry-init
loop-entry-init c x = look_begin (kind_of c.args.section) x c.args.circuit.now.symbols c.into_iter-entry-iterator.result _
    (c.into_iter-entry-iterator.ensures.into_iter_gives ∙ c.iter-entry-items.ensures.entries ∙ c.symbols.ensures) (c.requires x)

pub loop-entry-preserved : goal.loop-entry-preserved
loop-entry-preserved c x =
    let rest = c.loop-entry.entry-iterator in
    let next = rest_more (deref_pair {K = Kind × ℕ} {X = List ℕ}) rest c.next.new.self c.next.result
    (c.in-Some.entry, c.in-Some.name) c.in-Some.is c.next.ensures.steps in
    look_step (kind_of c.args.section) x c.args.circuit.now.symbols rest c.next.new.self (c.in-Some.entry.now, c.in-Some.name.now) _ _ next
    c.facts.ensures.formed.names (c.in_ok-look_at.ensures x) (c.loop-entry.invariant x)

pub returns : goal.returns
returns c x =
    let rest = c.loop-entry.entry-iterator in
    let none = rest_all (deref_pair {K = Kind × ℕ} {X = List ℕ}) rest c.next.new.self c.next.result c.in-None.is c.next.ensures.steps in
    all_looked c.args.section x c.args.circuit.now rest _ none (c.loop-entry.invariant x)
