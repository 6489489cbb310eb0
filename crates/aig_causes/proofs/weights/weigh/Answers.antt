use Rattle.std.proofs.Common.{ℕ, length, sym, subst, arith}
use Rattle.aig_values.specs.Cells.{HasVariablesBelow}
use Rattle.aig_values.proofs.SweepLemmas.{item_is}
use Rattle.aig_causes.proofs.weights.weigh.Goals as goal

pub value_at-value0-requires : goal.value_at-value0-requires
value_at-value0-requires g c =
    let below = item_is (HasVariablesBelow (length c.args.weights.now.items)) c.args.gates.now c.loop-gate.gate-index
    c.gate-item.result c.requires.gates c.loop-gate-test.true c.gate-item.is in
    record { frame = c.requires.frame; range = omega (arith, below.rhs0, c.requires.size) }

pub value_at-value1-requires : goal.value_at-value1-requires
value_at-value1-requires g c =
    let below = item_is (HasVariablesBelow (length c.args.weights.now.items)) c.args.gates.now c.loop-gate.gate-index
    c.gate-item.result c.requires.gates c.loop-gate-test.true c.gate-item.is in
    record { frame = c.requires.frame; range = omega (arith, below.rhs1, c.requires.size) }

pub weigh_gate-requires : goal.weigh_gate-requires
weigh_gate-requires g c =
    let below = item_is (HasVariablesBelow (length c.args.weights.now.items)) c.args.gates.now c.loop-gate.gate-index
    c.gate-item.result c.requires.gates c.loop-gate-test.true c.gate-item.is in
    subst (λ (n : ℕ). HasVariablesBelow n c.gate-item.result) (sym c.loop-gate.invariant) below
