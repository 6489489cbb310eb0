use Rattle.std.proofs.Common.{◌≡◌, ℕ, ◌≤◌, length, Some, slice_get, refl, sym, ap, ◌∙◌, arith}
use Rattle.std.proofs.lemmas.Bool.{false≢true}
use Rattle.std.proofs.lemmas.Option.{slice_get_within}
use Rattle.aig_parts.specs.Literal.{variable}
use Rattle.aig_parts.specs.declared.raw.Raw.{Raw}
use Rattle.aig_parts.specs.declared.ternary.Tern.TheVariants.{One}
use Rattle.aig_bench.specs.BenchState.{HasValue}
use Rattle.aig_values.proofs.PropertyLines.{constraint_defined, constraint_in_range}
use Rattle.aig_values.proofs.Evaluation.{items_more}
use Rattle.aig_base.proofs.lists.Items.{item_at}
use Rattle.aig_reduce.proofs.looks.are_one.Goals as goal

pub has_value-requires : goal.has_value-requires
has_value-requires g c =
    let raw = c.args.bench.now.pair.circuit in
    let same = c.constraints-literal-items.ensures ∙ ap (λ (r : Raw). r.constraints) c.circuit.ensures in
    let i = c.loop-literal.literal-index in
    let l = c.literal-item.result in
    let at : slice_get raw.constraints i ≡ Some l = item_at _ _ i l same c.loop-literal-test.true c.literal-item.is in
    let within : variable l ≤ raw.max_var = constraint_in_range raw c.width.ensures.circuit.sound i l at in
    record {
      frame = c.requires;
      range = omega (arith, within);
      defined = constraint_defined raw c.width.ensures.circuit.sound i l at;
    }

pub returns-then-not-has_value : goal.returns-then-not-has_value
returns-then-not-has_value g c =
    let same = c.constraints-literal-items.ensures ∙ ap (λ (r : Raw). r.constraints) c.circuit.ensures in (
      λ yes. absurd (false≢true yes),
      λ all. absurd (false≢true (sym c.if-not-has_value.true
          ∙ c.has_value.ensures.1 (all c.loop-literal.literal-index c.literal-item.result
          (item_at _ _ c.loop-literal.literal-index c.literal-item.result same c.loop-literal-test.true c.literal-item.is)))),
    )

pub loop-literal-preserved : goal.loop-literal-preserved
loop-literal-preserved g c = λ q k lt at.
    let p = c.args.bench.now.pair in
    let same = c.constraints-literal-items.ensures ∙ ap (λ (r : Raw). r.constraints) c.circuit.ensures in
    items_more (λ (l : ℕ). HasValue p c.args.frame l One) p.circuit.constraints c.loop-literal.literal-index c.literal-item.result
    (item_at _ _ c.loop-literal.literal-index c.literal-item.result same c.loop-literal-test.true c.literal-item.is)
    (λ i l below here. c.loop-literal.invariant i l below here) (c.has_value.ensures.0 c.if-not-has_value.false) q k lt at

pub returns : goal.returns
returns g c =
    let same = c.constraints-literal-items.ensures ∙ ap (λ (r : Raw). r.constraints) c.circuit.ensures in (
      λ yes q l at.
          let within = slice_get_within c.args.bench.now.pair.circuit.constraints q l at in
          c.loop-literal.invariant q l (omega (arith, within, ap length same, c.loop-literal-test.false)) at,
      λ all. refl,
    )
