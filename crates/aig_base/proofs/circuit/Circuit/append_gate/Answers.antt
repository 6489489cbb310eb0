use Rattle.std.proofs.Common.{◌≡◌, [], ◌∷◌, ◌++◌, sym, ap, subst, ◌∙◌}
use Rattle.aig_parts.specs.declared.gate.Gate.{Gate}
use Rattle.aig_parts.specs.declared.raw.Raw.{Raw}
use Rattle.aig_base.specs.Changes.{CanAppend, next_gate}
use Rattle.aig_base.proofs.growth.Appended.{more_circuit}
use Rattle.aig_base.proofs.circuit.Circuit.append_gate.Goals as goal

pub invariant_of-self : goal.invariant_of-self
invariant_of-self c = (
  c.self.invariant.0,
  c.make_room.ensures.describes c.self.inside.raw c.self.invariant.1,
  c.self.invariant.2,
)

pub invariant_of-self-in_err-push : goal.invariant_of-self-in_err-push
invariant_of-self-in_err-push c =
    rw c.in_err-push.ensures.err (
      c.self.invariant.0,
      c.make_room.ensures.describes c.self.inside.raw c.self.invariant.1,
      c.self.invariant.2,
    )

pub invariant_of-self-2 : goal.invariant_of-self-2
invariant_of-self-2 c =
    let raw = c.self.inside.raw in
    let r0 = c.args.r0 in
    let r1 = c.args.r1 in
    let back = sym c.self.view_is in
    let allowed = subst (λ (r : Raw). CanAppend r r0 r1) back c.requires in
    let gates : c.push.new.self ≡ raw.gates ++ next_gate raw r0 r1 ∷ [] =
    c.in_ok-push.ensures.ok
    ∙ ap (λ (g : Gate). raw.gates ++ g ∷ []) (c.next_gate-gate.ensures ∙ ap (λ (r : Raw). next_gate r r0 r1) back) in
    rw gates (
      more_circuit raw r0 r1 c.self.invariant.0 allowed.room allowed.defined0 allowed.defined1,
      c.append_gate.ensures raw r0 r1 c.next_gate_number-number.ensures
          (c.make_room.ensures.describes raw c.self.invariant.1),
      rw c.forget.ensures tt,
    )
