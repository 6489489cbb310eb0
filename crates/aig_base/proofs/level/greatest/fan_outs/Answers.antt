use Rattle.std.proofs.Common.{◌≡◌, ◌+◌, ◌<◌, ◌≤◌, ◌∙◌, cond, length, get_or, count_by, ap, sym, subst, arith}
use Rattle.std.proofs.lemmas.List.{with_items_is, take_all}
use Rattle.aig_base.specs.Greatest.{reads}
use Rattle.aig_base.proofs.circuits.Gates.{sides_in_range}
use Rattle.aig_base.proofs.levels.GreatestLemmas.{count_more, count_within}
use Rattle.aig_base.proofs.fan_outs.ReaderLists.{gate_at}
use Rattle.aig_base.proofs.level.greatest.fan_outs.Goals as goal

pub count_gate-requires-clause-first : goal.count_gate-requires-clause-first
count_gate-requires-clause-first c =
    let at = gate_at c.args.circuit.now _ _ _ c.gates-gate-items.ensures c.loop-gate-test.true c.gate-item.is in
    let (in0, in1) = sides_in_range c.args.circuit.now c.max_var-max_var.ensures.circuit.sound _ _ at in
    omega (arith, c.loop-gate.invariant.size, ap length c.deref_mut.ensures.value)

pub count_gate-requires-clause-second : goal.count_gate-requires-clause-second
count_gate-requires-clause-second c =
    let at = gate_at c.args.circuit.now _ _ _ c.gates-gate-items.ensures c.loop-gate-test.true c.gate-item.is in
    let (in0, in1) = sides_in_range c.args.circuit.now c.max_var-max_var.ensures.circuit.sound _ _ at in
    omega (arith, c.loop-gate.invariant.size, ap length c.deref_mut.ensures.value)

pub count_gate-requires-clause-room : goal.count_gate-requires-clause-room
count_gate-requires-clause-room c = λ v.
    let gates = c.args.circuit.now.gates in
    let i = c.loop-gate.gate-index in
    let long = ap length c.gates-gate-items.ensures in
    let before : i < length gates = omega (arith, c.loop-gate-test.true) in
    let few = c.max_var-max_var.ensures.circuit.formed.counts.gates in
    let here : get_or c.loop-gate.counts.items v 0 ≤ i =
    subst (λ k. k ≤ i) (sym (c.loop-gate.invariant.each v)) (count_within gates v i (omega arith)) in
    let fits : get_or c.loop-gate.counts.items v 0 + 1 < 4294967296 = omega arith in
    subst (λ xs. get_or xs v 0 + 1 < 4294967296) (sym c.deref_mut.ensures.value) fits

pub loop-gate-preserved : goal.loop-gate-preserved
loop-gate-preserved c =
    let raw = c.args.circuit.now in
    let g = c.gate-item.result in
    let i = c.loop-gate.gate-index in
    let at = gate_at raw _ _ _ c.gates-gate-items.ensures c.loop-gate-test.true c.gate-item.is in
    let new = c.count_gate.new.counts in
    let same = with_items_is c.loop-gate.counts new (omega (arith, c.count_gate.auto.counts, c.deref_mut.ensures.len)) in
    let long : length new ≡ length c.loop-gate.counts.items =
    omega (arith, c.count_gate.auto.counts, ap length c.deref_mut.ensures.value) in
    record {
      size = ap length same ∙ long ∙ c.loop-gate.invariant.size;
      each = λ v.
          ap (λ xs. get_or xs v 0) same ∙ c.count_gate.ensures v
          ∙ ap (λ xs. get_or xs v 0 + cond (reads v g) 1 0) c.deref_mut.ensures.value
          ∙ ap (λ k. k + cond (reads v g) 1 0) (c.loop-gate.invariant.each v) ∙ sym (count_more raw.gates v i g at);
    }

pub returns : goal.returns
returns c =
    let raw = c.args.circuit.now in
    let past : length raw.gates ≤ c.loop-gate.gate-index =
    omega (arith, c.loop-gate-test.false, ap length c.gates-gate-items.ensures) in
    record {
      size = omega (arith, c.loop-gate.invariant.size);
      each = λ v. c.loop-gate.invariant.each v ∙ ap (count_by (reads v)) (take_all c.loop-gate.gate-index raw.gates past);
    }
