use Rattle.std.proofs.Common.{◌≡◌, ◌≤◌, length, Some, slice_get, ap, ◌∙◌, arith}
use Rattle.aig_parts.specs.Literal.{variable}
use Rattle.aig_parts.specs.declared.raw.Raw.{Raw}
use Rattle.aig_base.proofs.circuits.Circuits.{input_defined, input_in_range}
use Rattle.aig_base.proofs.lists.Items.{item_at}
use Rattle.aig_why.proofs.lines.values.input_value.Goals as goal

pub value_at-requires-clause-range : goal.value_at-requires-clause-range
value_at-requires-clause-range g c =
    let raw = c.args.bench.now.pair.circuit in
    let l = c.index-inputs-position.result in
    let same = c.inputs.ensures ∙ ap (λ (r : Raw). r.inputs) c.circuit.ensures in
    let at : slice_get raw.inputs c.args.position ≡ Some l =
    item_at _ _ c.args.position l same (omega (arith, c.requires.there, ap length same)) c.index-inputs-position.is in
    let within : variable l ≤ raw.max_var = input_in_range raw c.width.ensures.circuit.sound c.args.position l at in
    omega (arith, within)

pub value_at-requires-clause-defined : goal.value_at-requires-clause-defined
value_at-requires-clause-defined g c =
    let same = c.inputs.ensures ∙ ap (λ (r : Raw). r.inputs) c.circuit.ensures in
    input_defined c.args.bench.now.pair.circuit c.args.position c.index-inputs-position.result
    (item_at _ _ c.args.position c.index-inputs-position.result same (omega (arith, c.requires.there, ap length same))
    c.index-inputs-position.is)

pub returns : goal.returns
returns g c =
    let same = c.inputs.ensures ∙ ap (λ (r : Raw). r.inputs) c.circuit.ensures in (
      c.index-inputs-position.result,
      item_at _ _ c.args.position c.index-inputs-position.result same (omega (arith, c.requires.there, ap length same))
          c.index-inputs-position.is,
      c.value_at.ensures,
    )
