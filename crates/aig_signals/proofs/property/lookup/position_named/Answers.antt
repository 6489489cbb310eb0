use Rattle.std.proofs.Common.{ℕ, List, sym, subst, ◌∙◌}
use Rattle.std.specs.Map.Iter.{deref_pair}
use Rattle.std.proofs.lemmas.Bool.{false≢true}
use Rattle.std.proofs.lemmas.Map.Iter.{rest_all, rest_more}
use Rattle.aig_parts.specs.declared.symbols.Kind.{Kind}
use Rattle.aig_base.specs.Selected.{kind_of}
use Rattle.aig_signals.specs.declared.property.lookup.Found.{Found}
use Rattle.aig_signals.proofs.PropertyLookups.{AreFound, look_past, look_found, look_end}
use Rattle.aig_signals.proofs.property.lookup.position_named.Goals as goal

pub loop-entry-preserved-then-is_named : goal.loop-entry-preserved-then-is_named
loop-entry-preserved-then-is_named c =
    let kind = kind_of c.args.section in
    let all = c.args.circuit.now.symbols in
    let rest = c.loop-entry.entry-iterator in
    let next = rest_more (deref_pair {K = Kind × ℕ} {X = List ℕ}) rest c.next.new.self c.next.result
    (c.in-Some.entry, c.in-Some.other) c.in-Some.is c.next.ensures.steps in
    let is = c.is_named.ensures.0 c.if-is_named.true in
    look_found kind c.args.name.now all rest c.next.new.self (c.in-Some.entry.now, c.in-Some.other.now) c.loop-entry.found
    c.with-found.result next is.0 is.1 c.facts.ensures.formed.names c.with-found.ensures c.loop-entry.invariant

pub loop-entry-preserved : goal.loop-entry-preserved
loop-entry-preserved c =
    let kind = kind_of c.args.section in
    let all = c.args.circuit.now.symbols in
    let rest = c.loop-entry.entry-iterator in
    let next = rest_more (deref_pair {K = Kind × ℕ} {X = List ℕ}) rest c.next.new.self c.next.result
    (c.in-Some.entry, c.in-Some.other) c.in-Some.is c.next.ensures.steps in
    look_past kind c.args.name.now all rest c.next.new.self (c.in-Some.entry.now, c.in-Some.other.now) c.loop-entry.found next
    (λ is_kind is_name. false≢true (sym c.if-is_named.false ∙ c.is_named.ensures.1 (is_kind, is_name)))
    c.loop-entry.invariant

pub returns-in-Nothing-clause-fault : goal.returns-in-Nothing-clause-fault
returns-in-Nothing-clause-fault c =
    let kind = kind_of c.args.section in
    let all = c.args.circuit.now.symbols in
    let rest = c.loop-entry.entry-iterator in
    let none = rest_all (deref_pair {K = Kind × ℕ} {X = List ℕ}) rest c.next.new.self c.next.result c.in-None.is c.next.ensures.steps in
    subst (λ (f : Found). AreFound kind c.args.name.now all f) c.in-Nothing.is
    (look_end kind c.args.name.now all c.loop-entry.found rest none c.loop-entry.invariant)

pub returns-in-One-clause-position : goal.returns-in-One-clause-position
returns-in-One-clause-position c =
    let kind = kind_of c.args.section in
    let all = c.args.circuit.now.symbols in
    let rest = c.loop-entry.entry-iterator in
    let none = rest_all (deref_pair {K = Kind × ℕ} {X = List ℕ}) rest c.next.new.self c.next.result c.in-None.is c.next.ensures.steps in
    subst (λ (f : Found). AreFound kind c.args.name.now all f) c.in-One.is
    (look_end kind c.args.name.now all c.loop-entry.found rest none c.loop-entry.invariant)

pub returns-in-Two-clause-fault : goal.returns-in-Two-clause-fault
returns-in-Two-clause-fault c =
    let kind = kind_of c.args.section in
    let all = c.args.circuit.now.symbols in
    let rest = c.loop-entry.entry-iterator in
    let none = rest_all (deref_pair {K = Kind × ℕ} {X = List ℕ}) rest c.next.new.self c.next.result c.in-None.is c.next.ensures.steps in
    subst (λ (f : Found). AreFound kind c.args.name.now all f) c.in-Two.is
    (look_end kind c.args.name.now all c.loop-entry.found rest none c.loop-entry.invariant)
