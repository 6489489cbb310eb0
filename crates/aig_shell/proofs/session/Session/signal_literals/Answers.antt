use Rattle.std.proofs.Common.{◌≡◌, ◌<◌, ◌-◌, All, length, map, ap, sym, subst, ◌∙◌, arith}
use Rattle.std.specs.List.{range_with_len}
use Rattle.aig_parts.specs.declared.raw.Raw.{Raw}
use Rattle.aig_parts.specs.Literal.{variable}
use Rattle.aig_base.specs.Circuit.{IsCircuit}
use Rattle.aig_base.specs.Sections.{IsDefined}
use Rattle.aig_signals.specs.Names.{literal_of, literals_of}
use Rattle.aig_shell.proofs.tables.Differences.{literals_more, literals_all, signal_known}
use Rattle.aig_shell.proofs.session.Session.signal_literals.Goals as goal

pub literal_at-literal-requires : goal.literal_at-literal-requires
literal_at-literal-requires c =
    subst (λ (raw : Raw). c.loop-position.position < length (literals_of raw c.args.signal.now.kind)) (sym c.circuit-circuit.ensures)
    (omega (arith, c.requires.within, c.loop-position-test.true))

pub first_literal-requires-clause-now : goal.first_literal-requires-clause-now
first_literal-requires-clause-now c =
    c.literal_at-literal.ensures
    ∙ ap (λ (raw : Raw). literal_of raw c.args.signal.now.kind c.loop-position.position) c.circuit-circuit.ensures

pub loop-position-preserved : goal.loop-position-preserved
loop-position-preserved c =
    let inv = c.loop-position.invariant in
    let here =
    c.literal_at-literal.ensures
    ∙ ap (λ (raw : Raw). literal_of raw c.args.signal.now.kind c.loop-position.position) c.circuit-circuit.ensures in
    record {
      current = literals_more (literal_of c.args.self.now.run.bench.pair.circuit c.args.signal.now.kind) c.args.signal.now.first
          c.loop-position.position c.loop-position.current.items c.push.new.self.items c.literal_at-literal.result
          c.loop-position.auto.position here inv.current c.in_ok-push.ensures.items;
      was = λ p h. literals_more (literal_of p.circuit c.args.signal.now.kind) c.args.signal.now.first c.loop-position.position
          c.loop-position.was.items c.push-in-loop-position.new.self.items c.first_literal.result c.loop-position.auto.position
          (c.first_literal.ensures p h) (inv.was p h) c.in_ok-push-2.ensures.items;
    }

pub returns-clause-are : goal.returns-clause-are
returns-clause-are c =
    let same : c.loop-position.position ≡ c.args.signal.now.end =
    omega (arith, c.loop-position-test.false, c.loop-position.auto.position-end, c.requires.order) in
    record {
      current = literals_all (literal_of c.args.self.now.run.bench.pair.circuit c.args.signal.now.kind) c.args.signal.now.first
          c.loop-position.position c.args.signal.now.end c.loop-position.current.items same c.loop-position.invariant.current;
      was = λ p h. literals_all (literal_of p.circuit c.args.signal.now.kind) c.args.signal.now.first c.loop-position.position
          c.args.signal.now.end c.loop-position.was.items same (c.loop-position.invariant.was p h);
    }

pub returns-clause-defined : goal.returns-clause-defined
returns-clause-defined c =
    let same : c.loop-position.position ≡ c.args.signal.now.end =
    omega (arith, c.loop-position-test.false, c.loop-position.auto.position-end, c.requires.order) in
    subst (All (λ l. IsDefined c.args.self.now.run.bench.pair.circuit (variable l)))
    (sym (literals_all (literal_of c.args.self.now.run.bench.pair.circuit c.args.signal.now.kind) c.args.signal.now.first
    c.loop-position.position c.args.signal.now.end c.loop-position.current.items same c.loop-position.invariant.current))
    (signal_known c.args.self.now.run.bench.pair.circuit (subst IsCircuit c.circuit-circuit.ensures c.facts.ensures) c.args.signal.now)
