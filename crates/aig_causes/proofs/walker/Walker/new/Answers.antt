use Rattle.std.proofs.Common.{◌≡◌, ◌+◌, ◌∙◌, ℕ, All, IfSome, length, unwrap_or, sym, ap, subst, arith}
use Rattle.aig_parts.specs.declared.raw.Raw.{Raw}
use Rattle.aig_values.specs.Cells.{HasVariablesBelow}
use Rattle.aig_values.specs.GateOrder.{IsGateOrder}
use Rattle.aig_causes.proofs.Walkers.{listed_below}
use Rattle.aig_causes.proofs.walker.Walker.new.Goals as goal

pub returns-clause-walker : goal.returns-clause-walker
returns-clause-walker g c =
    let p = c.args.bench.now.pair in
    let order = c.in_ok-order.order in
    let size : length c.in_ok-visited.visited.marks.items ≡ p.circuit.max_var + 1 =
    omega
    (arith, c.in_ok-visited.ensures.size, c.max_var.ensures.value, ap (λ (r : Raw). r.max_var) c.circuit-circuit.ensures) in
    record {
      earlier = c.in_ok-visited.ensures.earlier;
      weights = c.in_ok-weights.ensures ∙ sym c.in_ok-visited.ensures.size;
      gates = subst (λ (n : ℕ). IfSome order (All (HasVariablesBelow n))) (sym size)
          (listed_below p.circuit c.width.ensures.circuit order
          (subst (λ (r : Raw). IsGateOrder r (unwrap_or order r.gates)) c.circuit-circuit.ensures c.in_ok-order.ensures));
    }
