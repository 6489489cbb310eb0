use Rattle.std.proofs.Common.{ℕ, List, sym, ◌∙◌}
use Rattle.std.specs.Map.Iter.{deref_pair}
use Rattle.std.proofs.lemmas.Map.Iter.{rest_more}
use Rattle.aig_parts.specs.declared.symbols.Kind.{Kind}
use Rattle.aig_signals.proofs.NamedEntries.{keep_fresh, keep_more, keep_none}
use Rattle.aig_signals.proofs.property.naming.other_symbols.Goals as goal

pub push-requires : goal.push-requires
push-requires c =
    let next = rest_more (deref_pair {K = Kind × ℕ} {X = List ℕ}) c.loop-entry.entry-iterator c.next.new.self c.next.result
    (c.in-Some.entry, c.in-Some.name) c.in-Some.is c.next.ensures.steps in
    keep_fresh c.args.section c.args.circuit.now.symbols c.loop-entry.list c.loop-entry.entry-iterator c.next.new.self
    (c.in-Some.entry.now, c.in-Some.name.now) next c.facts.ensures.formed.names c.loop-entry.invariant

pub loop-entry-preserved-in-Continue-1 : goal.loop-entry-preserved-in-Continue-1
loop-entry-preserved-in-Continue-1 c =
    let next = rest_more (deref_pair {K = Kind × ℕ} {X = List ℕ}) c.loop-entry.entry-iterator c.next.new.self c.next.result
    (c.in-Some.entry, c.in-Some.name) c.in-Some.is c.next.ensures.steps in
    keep_more c.args.section c.args.circuit.now.symbols c.loop-entry.list c.push.new.self c.loop-entry.entry-iterator c.next.new.self
    (c.in-Some.entry.now, c.in-Some.name.now) next (sym c.is_other.ensures ∙ c.if-is_other.true) c.in_ok-push.ensures.ok
    c.loop-entry.invariant

pub loop-entry-preserved : goal.loop-entry-preserved
loop-entry-preserved c =
    let next = rest_more (deref_pair {K = Kind × ℕ} {X = List ℕ}) c.loop-entry.entry-iterator c.next.new.self c.next.result
    (c.in-Some.entry, c.in-Some.name) c.in-Some.is c.next.ensures.steps in
    keep_none c.args.section c.args.circuit.now.symbols c.loop-entry.list c.loop-entry.entry-iterator c.next.new.self
    (c.in-Some.entry.now, c.in-Some.name.now) next (sym c.is_other.ensures ∙ c.if-is_other.false) c.loop-entry.invariant
