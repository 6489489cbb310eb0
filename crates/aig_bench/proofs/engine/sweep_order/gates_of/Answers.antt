use Rattle.std.proofs.Common.{ℕ, ◌+◌, List, [], ◌∷◌, ◌++◌, get_or, take, sym, subst}
use Rattle.std.proofs.lemmas.List.{take_more}
use Rattle.aig_parts.specs.declared.gate.Gate.{Gate}
use Rattle.aig_values.specs.GateOrder.{AreGatesOf}
use Rattle.aig_bench.proofs.new_frames.GateLists.{gates_more}
use Rattle.aig_bench.proofs.engine.sweep_order.gates_of.Goals as goal

pub gate_at-requires : goal.gate_at-requires
gate_at-requires c = c.requires c.loop-variable.variable-index 0 c.loop-variable-test.true

pub loop-variable-preserved : goal.loop-variable-preserved
loop-variable-preserved c =
    let raw = c.args.circuit.now in
    let xs = c.args.variables.now in
    let i = c.loop-variable.variable-index in
    subst (AreGatesOf raw (take (i + 1) xs)) (sym {A = List Gate} c.in_ok-push.ensures.items)
    (subst (λ (vs : List ℕ). AreGatesOf raw vs (c.loop-variable.gates.items ++ c.gate_at.result ∷ []))
    (sym (take_more xs i 0 c.loop-variable-test.true))
    (gates_more (get_or xs i 0) c.gate_at.result c.loop-variable.invariant c.gate_at.ensures.known c.gate_at.ensures.variable))
