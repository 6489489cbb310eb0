use Rattle.std.proofs.Common.{ℕ, List}
use Rattle.std.specs.Map.Iter.{deref_pair}
use Rattle.std.proofs.lemmas.Map.Iter.{rest_more}
use Rattle.aig_parts.specs.declared.symbols.Kind.{Kind}
use Rattle.aig_format.proofs.SymbolLoop.{front_more, front_stops}
use Rattle.aig_format.proofs.writer.section.put_symbols.Goals as goal

pub returns-in_err-put_symbol : goal.returns-in_err-put_symbol
returns-in_err-put_symbol g c =
    let step = rest_more (deref_pair {K = Kind × ℕ} {X = List ℕ}) c.loop-key.key-iterator c.next.new.self c.next.result (c.in-Some.key, c.in-Some.name)
    c.in-Some.is c.next.ensures.steps in
    front_stops (c.in-Some.key.now, c.in-Some.name.now) c.loop-key.invariant step c.in_err-put_symbol.ensures c.from_residual.ensures.0

pub loop-key-preserved : goal.loop-key-preserved
loop-key-preserved g c =
    let step = rest_more (deref_pair {K = Kind × ℕ} {X = List ℕ}) c.loop-key.key-iterator c.next.new.self c.next.result (c.in-Some.key, c.in-Some.name)
    c.in-Some.is c.next.ensures.steps in
    front_more (c.in-Some.key.now, c.in-Some.name.now) c.loop-key.invariant step c.in_ok-put_symbol.ensures
