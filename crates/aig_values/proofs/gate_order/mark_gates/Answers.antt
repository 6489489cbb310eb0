use Rattle.std.proofs.Common.{◌≡◌, ◌+◌, Some, true, slice_get, slice_set, length, refl, sym, ap, ◌∙◌, subst, arith}
use Rattle.std.proofs.lemmas.Bool.{false≢true}
use Rattle.std.proofs.lemmas.List.{length-set}
use Rattle.aig_base.proofs.circuits.Circuits.{gate_in_range, rhs0_in_range, rhs1_in_range}
use Rattle.aig_base.proofs.lists.Items.{item_at}
use Rattle.aig_values.proofs.GateOrders.{AreReady, none_ready, ready_more, all_ready, reads_are_marked}
use Rattle.aig_values.proofs.gate_order.mark_gates.Goals as goal

pub loop-gate-init : goal.loop-gate-init
loop-gate-init c = record { size = c.requires.size; ready = none_ready c.args.circuit.now c.args.marks.now c.requires.sources }

pub reads_marked-requires : goal.reads_marked-requires
reads_marked-requires c =
    let raw = c.args.circuit.now in
    let i = c.loop-gate.gate-index in
    let g = c.gate-item.result in
    let at : slice_get raw.gates i ≡ Some g =
    item_at _ _ i g c.gates-gate-items.ensures c.loop-gate-test.true c.gate-item.is in
    let fits0 = rhs0_in_range raw c.facts.ensures.sound i g at in
    let fits1 = rhs1_in_range raw c.facts.ensures.sound i g at in
    record {
      rhs0 = omega (arith, c.loop-gate.invariant.size);
      rhs1 = omega (arith, c.loop-gate.invariant.size);
    }

pub returns-then-not-reads_marked : goal.returns-then-not-reads_marked
returns-then-not-reads_marked c =
    let raw = c.args.circuit.now in
    let i = c.loop-gate.gate-index in
    let g = c.gate-item.result in
    let at : slice_get raw.gates i ≡ Some g =
    item_at _ _ i g c.gates-gate-items.ensures c.loop-gate-test.true c.gate-item.is in (
      λ h. absurd (false≢true h),
      λ order. absurd (false≢true (sym c.if-not-reads_marked.true
          ∙ c.reads_marked.ensures.1 (reads_are_marked raw i g c.loop-gate.marks c.loop-gate.invariant.ready at order))),
    )

pub bounds-marks-var : goal.bounds-marks-var
bounds-marks-var c =
    let raw = c.args.circuit.now in
    let i = c.loop-gate.gate-index in
    let g = c.gate-item.result in
    let at : slice_get raw.gates i ≡ Some g =
    item_at _ _ i g c.gates-gate-items.ensures c.loop-gate-test.true c.gate-item.is in
    let fits = gate_in_range raw c.facts.ensures.sound i g at in
    omega (arith, c.var.ensures, c.loop-gate.invariant.size)

pub loop-gate-preserved : goal.loop-gate-preserved
loop-gate-preserved c =
    let raw = c.args.circuit.now in
    let i = c.loop-gate.gate-index in
    let g = c.gate-item.result in
    let marks = c.loop-gate.marks in
    let at : slice_get raw.gates i ≡ Some g =
    item_at _ _ i g c.gates-gate-items.ensures c.loop-gate-test.true c.gate-item.is in
    let fits = gate_in_range raw c.facts.ensures.sound i g at in
    let both = c.reads_marked.ensures.0 c.if-not-reads_marked.false in
    record {
      size = length-set _ _ _ ∙ c.loop-gate.invariant.size;
      ready = subst (λ v. AreReady raw (i + 1) (slice_set marks v true)) (sym c.var.ensures)
          (ready_more raw i g marks c.loop-gate.invariant.ready at (omega (arith, c.loop-gate.invariant.size)) both.0 both.1);
    }

pub returns : goal.returns
returns c = (
  λ _. all_ready c.args.circuit.now c.loop-gate.gate-index c.loop-gate.marks
      (omega (arith, c.loop-gate-test.false, ap length c.gates-gate-items.ensures)) c.loop-gate.invariant.ready,
  λ _. refl,
)
