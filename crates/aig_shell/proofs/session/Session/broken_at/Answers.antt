use Rattle.std.proofs.Common.{length, refl, ap, ◌∙◌, subst, arith}
use Rattle.std.proofs.lemmas.Option.{slice_get_within}
use Rattle.aig_parts.specs.declared.raw.Raw.{Raw}
use Rattle.aig_parts.specs.declared.ternary.Tern.TheVariants.{One}
use Rattle.aig_base.specs.Circuit.{IsCircuit}
use Rattle.aig_bench.specs.BenchState.{HasValue}
use Rattle.aig_values.proofs.PropertyLines.{constraint_defined}
use Rattle.aig_values.proofs.Evaluation.{items_more}
use Rattle.aig_base.proofs.lists.Items.{item_at}
use Rattle.aig_shell.proofs.tables.FirstRuns.{other_value, same_value}
use Rattle.aig_shell.proofs.session.Session.broken_at.Goals as goal

pub value-found-requires-clause-defined : goal.value-found-requires-clause-defined
value-found-requires-clause-defined c =
    let p = c.args.self.now.run.bench.pair in
    let circuit = subst IsCircuit c.circuit-circuit.ensures c.facts.ensures in
    let same = c.constraints-literal-items.ensures ∙ ap (λ (r : Raw). r.constraints) c.circuit-circuit.ensures in
    constraint_defined p.circuit circuit.sound c.loop-position.position c.literal-item.result
    (item_at _ _ c.loop-position.position c.literal-item.result same c.loop-position-test.true c.literal-item.is)

pub returns-then-ne-clause-some : goal.returns-then-ne-clause-some
returns-then-ne-clause-some c =
    let same = c.constraints-literal-items.ensures ∙ ap (λ (r : Raw). r.constraints) c.circuit-circuit.ensures in (
      refl,
      record {
        literal = c.literal-item.result;
        literal_is = item_at _ _ c.loop-position.position c.literal-item.result same c.loop-position-test.true c.literal-item.is;
        value_is = c.value-found.ensures;
        not_one = other_value _ _ c.ne.result c.ne.ensures c.if-ne.true;
      },
      c.loop-position.invariant,
    )

pub loop-position-preserved : goal.loop-position-preserved
loop-position-preserved c =
    let p = c.args.self.now.run.bench.pair in
    let same = c.constraints-literal-items.ensures ∙ ap (λ (r : Raw). r.constraints) c.circuit-circuit.ensures in
    items_more (λ l. HasValue p c.args.frame l One) p.circuit.constraints c.loop-position.position c.literal-item.result
    (item_at _ _ c.loop-position.position c.literal-item.result same c.loop-position-test.true c.literal-item.is)
    c.loop-position.invariant
    (subst (HasValue p c.args.frame c.literal-item.result) (same_value _ _ c.ne.result c.ne.ensures c.if-ne.false) c.value-found.ensures)

pub returns-clause-none : goal.returns-clause-none
returns-clause-none c =
    let p = c.args.self.now.run.bench.pair in
    let same = c.constraints-literal-items.ensures ∙ ap (λ (r : Raw). r.constraints) c.circuit-circuit.ensures in
    λ k l at. c.loop-position.invariant k l
    (omega (arith, slice_get_within p.circuit.constraints k l at, c.loop-position-test.false, ap length same)) at
