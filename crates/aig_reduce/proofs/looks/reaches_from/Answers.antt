use Rattle.std.proofs.Common.{◌≡◌, ℕ, ◌-◌, ◌≤◌, length, Some, slice_get, refl, sym, ap, ◌∙◌, subst, arith}
use Rattle.std.proofs.lemmas.Bool.{false≢true}
use Rattle.std.proofs.lemmas.Option.{same_Some}
use Rattle.aig_parts.specs.Literal.{variable}
use Rattle.aig_parts.specs.declared.raw.Raw.{Raw}
use Rattle.aig_parts.specs.declared.ternary.Tern.TheVariants.{One}
use Rattle.aig_bench.specs.BenchState.{HasValue}
use Rattle.aig_values.proofs.PropertyLines.{bad_defined, bad_in_range}
use Rattle.aig_base.proofs.lists.Items.{item_at}
use Rattle.aig_reduce.proofs.looks.reaches_from.Goals as goal

pub has_value-requires : goal.has_value-requires
has_value-requires g c =
    let raw = c.args.bench.now.pair.circuit in
    let same = c.bad.ensures ∙ ap (λ (r : Raw). r.bad) c.circuit.ensures in
    let l = c.index-bad-property.result in
    let at : slice_get raw.bad c.args.property ≡ Some l =
    item_at _ _ c.args.property l same (omega (arith, c.requires.property, ap length same)) c.index-bad-property.is in
    let within : variable l ≤ raw.max_var = bad_in_range raw c.width.ensures.circuit.sound c.args.property l at in
    record {
      frame = omega (arith, c.requires.rows, c.frames.ensures);
      range = omega (arith, within);
      defined = bad_defined raw c.width.ensures.circuit.sound c.args.property l at;
    }

pub returns-then-not-has_value : goal.returns-then-not-has_value
returns-then-not-has_value g c =
    let p = c.args.bench.now.pair in
    let same = c.bad.ensures ∙ ap (λ (r : Raw). r.bad) c.circuit.ensures in
    let l = c.index-bad-property.result in
    let at : slice_get p.circuit.bad c.args.property ≡ Some l =
    item_at _ _ c.args.property l same (omega (arith, c.requires.property, ap length same)) c.index-bad-property.is in
    let last : c.frames.result - 1 ≡ length p.rows - 1 = ap (λ (n : ℕ). n - 1) c.frames.ensures in (
      λ yes. absurd (false≢true yes),
      λ r. absurd (false≢true (sym c.if-not-has_value.true
          ∙ c.has_value.ensures.1 (subst (λ (n : ℕ). HasValue p n l One) (sym last) (r.bad l at)))),
    )

pub returns-then-not-are_one : goal.returns-then-not-are_one
returns-then-not-are_one g c = (
  λ yes. absurd (false≢true yes),
  λ r. absurd (false≢true (sym c.if-not-are_one.true
      ∙ c.are_one.ensures.1 (r.constrained c.loop-frame.frame (omega (arith, c.loop-frame.auto.frame))
      (omega (arith, c.loop-frame-test.true, c.frames-frame-end.ensures))))),
)

pub returns : goal.returns
returns g c =
    let p = c.args.bench.now.pair in
    let same = c.bad.ensures ∙ ap (λ (r : Raw). r.bad) c.circuit.ensures in
    let l = c.index-bad-property.result in
    let at : slice_get p.circuit.bad c.args.property ≡ Some l =
    item_at _ _ c.args.property l same (omega (arith, c.requires.property, ap length same)) c.index-bad-property.is in
    let last : c.frames.result - 1 ≡ length p.rows - 1 = ap (λ (n : ℕ). n - 1) c.frames.ensures in (
      λ yes. record {
        constrained = λ u from lt.
            c.loop-frame.invariant u from (omega (arith, lt, c.loop-frame-test.false, c.frames-frame-end.ensures));
        bad = λ k here.
            subst (λ (n : ℕ). HasValue p n k One) last
            (subst (λ (m : ℕ). HasValue p (c.frames.result - 1) m One) (same_Some l k (sym at ∙ here))
            (c.has_value.ensures.0 c.if-not-has_value.false));
      },
      λ r. refl,
    )
