use Rattle.std.proofs.Common.{◌∷◌, [], ◌++◌, List, sym, ap, ◌∙◌, subst}
use Rattle.aig_parts.specs.declared.gate.Gate.{Gate}
use Rattle.aig_base.specs.Changes.{with_appended_gate}
use Rattle.aig_bench.specs.declared.engine.sweep_order.Way.{Way}
use Rattle.aig_bench.specs.state.SweepOrder.{AreTaken, IsFullOrder}
use Rattle.aig_bench.proofs.new_frames.GateLists.{list_more, order_more}
use Rattle.aig_bench.proofs.engine.sweep_order.Order.push_gate.Goals as goal

pub returns-in-Standing : goal.returns-in-Standing
returns-in-Standing c raw r0 r1 e d0 d1 h =
    let gates = c.args.self.now.gates.items in
    subst (λ (w : Way). AreTaken (with_appended_gate raw r0 r1) w gates) (sym c.in-Standing.is)
    (order_more raw r0 r1 d0 d1 raw.gates (subst (λ (w : Way). AreTaken raw w gates) c.in-Standing.is h))

pub returns-in-Listed : goal.returns-in-Listed
returns-in-Listed c raw r0 r1 e d0 d1 h =
    let gates = c.args.self.now.gates.items in
    subst (λ (w : Way). AreTaken (with_appended_gate raw r0 r1) w c.push_reserved.new.self.items) (sym c.in-Listed.is)
    (subst (λ (xs : List Gate). IsFullOrder (with_appended_gate raw r0 r1) xs)
    (sym {A = List Gate} (c.push_reserved.ensures.items ∙ ap (λ (g : Gate). gates ++ g ∷ []) e))
    (list_more raw r0 r1 d0 d1 gates (subst (λ (w : Way). AreTaken raw w gates) c.in-Listed.is h)))
