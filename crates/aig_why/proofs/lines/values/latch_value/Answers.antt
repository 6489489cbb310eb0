use Rattle.std.proofs.Common.{◌≡◌, ◌≤◌, length, Some, slice_get, ap, ◌∙◌, arith}
use Rattle.aig_parts.specs.Literal.{variable}
use Rattle.aig_parts.specs.declared.raw.Raw.{Raw}
use Rattle.aig_base.proofs.circuits.Circuits.{latch_defined, latch_in_range}
use Rattle.aig_base.proofs.lists.Items.{item_at}
use Rattle.aig_why.proofs.lines.values.latch_value.Goals as goal
use Rattle.aig_why.proofs.NamingLemmas.{latch_literal}

pub value_at-requires-clause-range : goal.value_at-requires-clause-range
value_at-requires-clause-range g c =
    let raw = c.args.bench.now.pair.circuit in
    let x = c.index-latches-position.result in
    let same = c.latches.ensures ∙ ap (λ (r : Raw). r.latches) c.circuit.ensures in
    let at : slice_get raw.latches c.args.position ≡ Some x =
    item_at _ _ c.args.position x same (omega (arith, c.requires.there, ap length same)) c.index-latches-position.is in
    let within : variable x.lit ≤ raw.max_var = latch_in_range raw c.width.ensures.circuit.sound c.args.position x at in
    omega (arith, within)

pub value_at-requires-clause-defined : goal.value_at-requires-clause-defined
value_at-requires-clause-defined g c =
    let same = c.latches.ensures ∙ ap (λ (r : Raw). r.latches) c.circuit.ensures in
    latch_defined c.args.bench.now.pair.circuit c.args.position c.index-latches-position.result
    (item_at _ _ c.args.position c.index-latches-position.result same (omega (arith, c.requires.there, ap length same))
    c.index-latches-position.is)

pub returns : goal.returns
returns g c =
    let x = c.index-latches-position.result in
    let same = c.latches.ensures ∙ ap (λ (r : Raw). r.latches) c.circuit.ensures in (
      x.lit,
      latch_literal c.args.bench.now.pair.circuit.latches c.args.position x
          (item_at _ _ c.args.position x same (omega (arith, c.requires.there, ap length same)) c.index-latches-position.is),
      c.value_at.ensures,
    )
