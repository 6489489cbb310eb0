use Rattle.std.proofs.Common.{◌≢◌, ◌<◌, ◌∙◌, get_or, map, length, ap, sym, subst, arith}
use Rattle.aig_base.specs.Readers.{GateList}
use Rattle.aig_base.specs.state.GateLists.{RoomyLists, far_list, no_gates}
use Rattle.aig_base.specs.state.ReaderSlots.{items_at}
use Rattle.aig_base.proofs.fan_outs.GateListLemmas.{near_view, slot_few, slot_there}
use Rattle.aig_base.proofs.readers.gate_lists.GateLists.list.Goals as goal

pub near-requires-clause-slot : goal.near-requires-clause-slot
near-requires-clause-slot c =
    let far = map far_list c.self.inside.far.items in
    let slots = c.self.inside.slots.slots in
    let v = c.args.variable in
    let lt = subst (λ (r : RoomyLists). v < length r.slots) (sym c.self.view_is) c.requires in
    let at = slot_there far slots v lt in
    (get_or slots v no_gates, at, sym (c.count-count.ensures (get_or slots v no_gates) at))

pub near-requires-clause-few : goal.near-requires-clause-few
near-requires-clause-few c =
    let far = map far_list c.self.inside.far.items in
    let slots = c.self.inside.slots.slots in
    let v = c.args.variable in
    let s = get_or slots v no_gates in
    let lt = subst (λ (r : RoomyLists). v < length r.slots) (sym c.self.view_is) c.requires in
    let at = slot_there far slots v lt in
    let count = c.count-count.ensures s at in
    let ne : s.count ≢ 5 = (λ e. (let z : ⊥ = grind (arith, count, e, c.if-count-eq-FAR.false) in z)) in
    let few = slot_few far slots v s at c.self.invariant ne in
    omega (arith, count, few)

pub returns : goal.returns
returns c =
    let far = map far_list c.self.inside.far.items in
    let slots = c.self.inside.slots.slots in
    let v = c.args.variable in
    let s = get_or slots v no_gates in
    let lt = subst (λ (r : RoomyLists). v < length r.slots) (sym c.self.view_is) c.requires in
    let at = slot_there far slots v lt in
    let count = c.count-count.ensures s at in
    let ne : s.count ≢ 5 = (λ e. (let z : ⊥ = grind (arith, count, e, c.if-count-eq-FAR.false) in z)) in
    let few = slot_few far slots v s at c.self.invariant ne in
    c.near.ensures s at ∙ sym (ap (λ (l : GateList). l.items) (near_view far slots v s at few))
    ∙ ap (λ (r : RoomyLists). items_at r.slots v) c.self.view_is
