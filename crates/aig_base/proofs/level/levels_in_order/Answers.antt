use Rattle.std.proofs.Common.{◌∙◌, ap, length, sym, arith}
use Rattle.std.proofs.lemmas.List.{length_push}
use Rattle.aig_base.specs.state.Descent.{level_above}
use Rattle.aig_base.proofs.circuits.InOrder.{gate_number, size_is}
use Rattle.aig_base.proofs.fan_outs.ReaderLists.{gate_at}
use Rattle.aig_base.proofs.levels.FirstLevels.{first_all, first_gate, first_low}
use Rattle.aig_base.proofs.level.levels_in_order.Goals as goal

pub level_over-requires-clause-first : goal.level_over-requires-clause-first
level_over-requires-clause-first c =
    let at = gate_at c.args.circuit.now _ _ _ c.gates-gate-items.ensures c.loop-gate-test.true c.gate-item.is in
    let smaller = c.reads_smaller.ensures.0 c.if-not-reads_smaller.false in
    omega (
      arith,
      smaller.0,
      gate_number c.args.circuit.now c.requires _ _ at,
      c.loop-gate.invariant.size,
      ap length c.deref.ensures.value,
    )

pub level_over-requires-clause-second : goal.level_over-requires-clause-second
level_over-requires-clause-second c =
    let at = gate_at c.args.circuit.now _ _ _ c.gates-gate-items.ensures c.loop-gate-test.true c.gate-item.is in
    let smaller = c.reads_smaller.ensures.0 c.if-not-reads_smaller.false in
    omega (
      arith,
      smaller.1,
      gate_number c.args.circuit.now c.requires _ _ at,
      c.loop-gate.invariant.size,
      ap length c.deref.ensures.value,
    )

pub level_over-requires-clause-fits : goal.level_over-requires-clause-fits
level_over-requires-clause-fits c =
    let raw = c.args.circuit.now in
    let levels = c.loop-gate.levels.items in
    let at = gate_at raw _ _ _ c.gates-gate-items.ensures c.loop-gate-test.true c.gate-item.is in
    let number = gate_number raw c.requires _ _ at in
    let smaller = c.reads_smaller.ensures.0 c.if-not-reads_smaller.false in
    let low = first_low raw levels c.gate-item.result (_, at, number ∙ sym c.loop-gate.invariant.size) smaller
    c.loop-gate.invariant.first in
    let same = ap (λ xs. level_above xs c.gate-item.result) c.deref.ensures.value in
    omega (
      arith,
      c.loop-gate.invariant.size,
      ap length c.gates-gate-items.ensures,
      size_is raw c.requires,
      c.loop-gate-test.true,
      c.facts.ensures.formed.counts.max_var,
    )

pub loop-gate-preserved : goal.loop-gate-preserved
loop-gate-preserved c =
    let raw = c.args.circuit.now in
    let levels = c.loop-gate.levels.items in
    let g = c.gate-item.result in
    let at = gate_at raw _ _ _ c.gates-gate-items.ensures c.loop-gate-test.true c.gate-item.is in
    let number = gate_number raw c.requires _ _ at in
    let level = c.level_over.ensures ∙ ap (λ xs. level_above xs g) c.deref.ensures.value in
    let long = length_push levels (level_above levels g) in
    rw (c.in_ok-push.ensures.items, level) (record {
      size = omega (arith, c.loop-gate.invariant.size);
      first = first_gate raw levels g (_, at, number ∙ sym c.loop-gate.invariant.size)
          (c.reads_smaller.ensures.0 c.if-not-reads_smaller.false) c.loop-gate.invariant.first c.facts.ensures.sound;
    })

pub returns : goal.returns
returns c =
    let raw = c.args.circuit.now in
    first_all raw c.loop-gate.levels.items c.facts.ensures.sound
    (omega (
      arith,
      c.loop-gate.invariant.size,
      size_is raw c.requires,
      c.loop-gate-test.false,
      c.loop-gate.auto.gate-index-end,
      ap length c.gates-gate-items.ensures,
    ))
    c.loop-gate.invariant.first
