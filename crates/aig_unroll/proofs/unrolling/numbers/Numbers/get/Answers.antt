use Rattle.std.proofs.Common.{◌+◌, ◌∙◌, ap, length, sym, arith}
use Rattle.std.proofs.lemmas.List.{get_or_default}
use Rattle.aig_base.proofs.lists.Counting.{length-order}
use Rattle.aig_base.proofs.renumbered.Renumberings.{input_variable, latch_renumbered, free_variable}
use Rattle.aig_unroll.proofs.NumberLemmas.{number_in, gate_number}
use Rattle.aig_unroll.proofs.unrolling.numbers.Numbers.get.Goals as goal

pub overflow_add-result-in-Some-Gate : goal.overflow_add-result-in-Some-Gate
overflow_add-result-in-Some-Gate c =
    let s = c.self.inside in
    let raw = s.circuit.now in
    let counts = c.facts.ensures.formed.counts in
    let (inside, below, is) = gate_number raw c.facts.ensures.sound s.order.now c.self.invariant.canonical s.places.items
    c.args.variable _ (rw c.in-Some-Gate.field-0-is at c.in-Some-Gate.ensures.found) c.self.invariant in
    omega (
      arith,
      below,
      c.index.ensures ∙ get_or_default s.places.items _ c.index.result.now 0 inside,
      length-order raw c.facts.ensures.sound s.order.now c.self.invariant.canonical,
      ap length c.inputs.ensures,
      ap length c.latches.ensures,
      counts.inputs,
      counts.latches,
      counts.gates,
    )

pub overflow_add-result-in-Some-Gate-2 : goal.overflow_add-result-in-Some-Gate-2
overflow_add-result-in-Some-Gate-2 c =
    let s = c.self.inside in
    let raw = s.circuit.now in
    let counts = c.facts.ensures.formed.counts in
    let (inside, below, is) = gate_number raw c.facts.ensures.sound s.order.now c.self.invariant.canonical s.places.items
    c.args.variable _ (rw c.in-Some-Gate.field-0-is at c.in-Some-Gate.ensures.found) c.self.invariant in
    omega (
      arith,
      below,
      c.index.ensures ∙ get_or_default s.places.items _ c.index.result.now 0 inside,
      length-order raw c.facts.ensures.sound s.order.now c.self.invariant.canonical,
      ap length c.inputs.ensures,
      ap length c.latches.ensures,
      counts.inputs,
      counts.latches,
      counts.gates,
    )

pub returns-in-Some-Input : goal.returns-in-Some-Input
returns-in-Some-Input c =
    let s = c.self.inside in
    sym (number_in s.circuit.now s.order.now c.args.variable c.args.self.now c.self.view_is c.requires
    ∙ input_variable s.circuit.now c.facts.ensures.sound s.order.now (λ u. (c.self.invariant.canonical.gates u).0)
    c.args.variable _ (rw c.in-Some-Input.field-0-is at c.in-Some-Input.ensures.found))

pub returns-in-Some-Latch : goal.returns-in-Some-Latch
returns-in-Some-Latch c =
    let s = c.self.inside in
    ap (λ xs. length xs + c.in-Some-Latch.position + 1) c.inputs.ensures
    ∙ sym (number_in s.circuit.now s.order.now c.args.variable c.args.self.now c.self.view_is c.requires
    ∙ latch_renumbered s.circuit.now c.facts.ensures.sound s.order.now (λ u. (c.self.invariant.canonical.gates u).0)
    c.args.variable _ (rw c.in-Some-Latch.field-0-is at c.in-Some-Latch.ensures.found))

pub returns-in-Some-Gate : goal.returns-in-Some-Gate
returns-in-Some-Gate c =
    let s = c.self.inside in
    let raw = s.circuit.now in
    let (inside, below, is) = gate_number raw c.facts.ensures.sound s.order.now c.self.invariant.canonical s.places.items
    c.args.variable _ (rw c.in-Some-Gate.field-0-is at c.in-Some-Gate.ensures.found) c.self.invariant in
    omega (
      arith,
      is,
      number_in raw s.order.now c.args.variable c.args.self.now c.self.view_is c.requires,
      c.index.ensures ∙ get_or_default s.places.items _ c.index.result.now 0 inside,
      ap length c.inputs.ensures,
      ap length c.latches.ensures,
    )

pub returns-in-None : goal.returns-in-None
returns-in-None c =
    let s = c.self.inside in
    sym (number_in s.circuit.now s.order.now c.args.variable c.args.self.now c.self.view_is c.requires
    ∙ free_variable s.circuit.now c.facts.ensures.sound s.order.now (λ u. (c.self.invariant.canonical.gates u).0)
    c.args.variable c.in-None.ensures.none)
