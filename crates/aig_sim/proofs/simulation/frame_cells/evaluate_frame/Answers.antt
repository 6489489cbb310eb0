use Rattle.std.proofs.Common.{◌≡◌, ◌<◌, ℕ, ◌*◌, List, Some, slice_get, slice_set, length, sym, subst, refl, ap₂, ◌∙◌}
use Rattle.std.proofs.Common.{arith}
use Rattle.aig_parts.specs.declared.ternary.Tern.{Tern}
use Rattle.aig_parts.specs.declared.gate.Gate.{Gate}
use Rattle.aig_parts.specs.declared.raw.Raw.{Raw}
use Rattle.aig_parts.specs.Literal.{variable}
use Rattle.aig_base.specs.Sound.{IsSound}
use Rattle.aig_parts.specs.Ternary.{kleene_and}
use Rattle.aig_base.specs.Value.{Value}
use Rattle.aig_values.specs.Cells.{gate_value}
use Rattle.aig_values.specs.state.Frame.{Holds, HoldsSources}
use Rattle.aig_values.specs.GateOrder.{IsGateOrder}
use Rattle.aig_values.proofs.Evaluation.{items_more, items_all, renews_none, put_value, gate_value_is}
use Rattle.aig_base.proofs.lists.Items.{item_at}
use Rattle.aig_values.proofs.Evaluation.{all_hold}
use Rattle.aig_sim.proofs.simulation.frame_cells.evaluate_frame.Goals as goal

pub loop-gate-preserved : goal.loop-gate-preserved
loop-gate-preserved c =
    let gates = c.args.gates.now in
    let i = c.loop-gate.gate-index in
    let g = c.gate-item.result in
    let cells = c.loop-gate.cells in
    let w = c.and-value.result in
    let at : slice_get gates i ≡ Some g = item_at gates gates i g refl c.loop-gate-test.true c.gate-item.is in
    let wide : c.var.result < length cells = omega (arith, c.var.ensures, c.requires.lhs i g at) in
    let is : w ≡ gate_value cells g = c.and-value.ensures
    ∙ ap₂ kleene_and c.code_in.ensures c.code_in-in-loop-gate.ensures in
    let put = λ (raw : Raw) (start : List Tern) (rows : List (List Tern)) (t : ℕ) (sound : IsSound raw) (order : IsGateOrder raw gates)
    (h : HoldsSources raw start rows t c.args.cells.now).
    put_value raw start rows t cells cells c.var.result (variable g.lhs) w c.var.ensures wide
    (subst (λ (u : Tern). Value raw start rows t (2 * variable g.lhs) u) (sym is)
    (gate_value_is raw start rows t gates i g cells sound order at (c.loop-gate.invariant.sources raw start rows t sound order h)
    (c.loop-gate.invariant.first raw start rows t sound order h)))
    (renews_none raw start rows t cells) in
    record {
      sources = λ raw start rows t sound order h. λ v s. (put raw start rows t sound order h).1.keeps v
          (c.loop-gate.invariant.sources raw start rows t sound order h v s);
      first = λ raw start rows t sound order h.
          items_more (λ k. Holds raw start rows t (slice_set cells c.var.result w) (variable k.lhs)) gates i g at
          (λ j k below is. (put raw start rows t sound order h).1.keeps (variable k.lhs)
          (c.loop-gate.invariant.first raw start rows t sound order h j k below is))
          (put raw start rows t sound order h).2;
    }

pub returns : goal.returns
returns c =
    let gates = c.args.gates.now in
    λ raw start rows t sound order h.
    all_hold raw start rows t gates c.loop-gate.cells order (c.loop-gate.invariant.sources raw start rows t sound order h)
    (λ r g below at. items_all
    (λ (k : Gate). Holds raw start rows t c.loop-gate.cells (variable k.lhs)) gates c.loop-gate.gate-index
    (omega (arith, c.loop-gate-test.false)) (c.loop-gate.invariant.first raw start rows t sound order h) r g at)
