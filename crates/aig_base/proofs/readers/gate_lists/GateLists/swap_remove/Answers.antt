use Rattle.std.proofs.Common.{◌≢◌, ◌<◌, ℕ, List, length, map, swap_remove, subst, sym, ◌∙◌, arith}
use Rattle.std.proofs.lemmas.List.{length-map}
use Rattle.aig_base.specs.state.GateLists.{RoomyLists, far_list, slot_list}
use Rattle.aig_base.specs.state.ReaderSlots.{items_at}
use Rattle.aig_base.proofs.fan_outs.GateListLemmas.{near_kept, near_with, slot_at, slot_few, written_kept, written_with}
use Rattle.aig_base.proofs.fan_outs.GateListLemmas.{removed_default}
use Rattle.aig_base.proofs.fan_outs.ReaderLists.{items_within}
use Rattle.aig_base.proofs.readers.gate_lists.GateLists.swap_remove.Goals as goal

pub invariant_of-self : goal.invariant_of-self
invariant_of-self c =
    let far = map far_list c.self.inside.far.items in
    let slots = c.self.inside.slots.slots in
    let v = c.args.variable in
    let lt = subst (λ (r : RoomyLists). c.args.place < length (items_at r.slots c.args.variable)) (sym c.self.view_is) c.requires in
    let within : v < length (map (slot_list far) slots) = items_within _ _ c.args.place lt in
    let s = c.get-slot.result in
    let at = slot_at far slots v s within c.get-slot.ensures in
    written_kept c.self.inside.far.items slots v c.position.result s c.index_mut.result.now
    c.swap_remove.new.self at (c.is_far.ensures.far.0 c.if-is_far.true) c.position.ensures c.index_mut.ensures.value
    c.self.invariant (omega (arith, c.swap_remove.ensures.capacity))

pub returns-then-is_far-clause-slots : goal.returns-then-is_far-clause-slots
returns-then-is_far-clause-slots c =
    let far = map far_list c.self.inside.far.items in
    let slots = c.self.inside.slots.slots in
    let v = c.args.variable in
    let lt = subst (λ (r : RoomyLists). c.args.place < length (items_at r.slots c.args.variable)) (sym c.self.view_is) c.requires in
    let within : v < length (map (slot_list far) slots) = items_within _ _ c.args.place lt in
    let s = c.get-slot.result in
    let at = slot_at far slots v s within c.get-slot.ensures in
    rw (← c.self.view_is)
    (written_with c.self.inside.far.items slots v c.position.result s c.index_mut.result.now
    c.swap_remove.new.self at (c.is_far.ensures.far.0 c.if-is_far.true) c.position.ensures c.index_mut.ensures.value
    c.self.invariant (λ (xs : List ℕ). swap_remove xs c.args.place 0)
    (c.swap_remove.ensures.items ∙ removed_default c.index_mut.result.now.items c.args.place c.swap_remove.result 0)
    c.swap_remove.ensures.capacity)

pub swap_remove-requires-else-is_far-clause-few : goal.swap_remove-requires-else-is_far-clause-few
swap_remove-requires-else-is_far-clause-few c =
    let far = map far_list c.self.inside.far.items in
    let slots = c.self.inside.slots.slots in
    let v = c.args.variable in
    let lt = subst (λ (r : RoomyLists). c.args.place < length (items_at r.slots c.args.variable)) (sym c.self.view_is) c.requires in
    let within : v < length (map (slot_list far) slots) = items_within _ _ c.args.place lt in
    let s = c.get-slot.result in
    let at = slot_at far slots v s within c.get-slot.ensures in
    let not_far : c.get-slot.result.count ≢ 5 = (λ e. (let z : ⊥ = grind (arith, c.is_far.ensures.far.1 e, c.if-is_far.false) in z)) in
    let few = slot_few far slots v s at c.self.invariant not_far in
    few

pub set-requires : goal.set-requires
set-requires c =
    let far = map far_list c.self.inside.far.items in
    let slots = c.self.inside.slots.slots in
    let v = c.args.variable in
    let lt = subst (λ (r : RoomyLists). c.args.place < length (items_at r.slots c.args.variable)) (sym c.self.view_is) c.requires in
    let within : v < length (map (slot_list far) slots) = items_within _ _ c.args.place lt in
    let size = length-map slots (slot_list far) in
    omega (arith, within)

pub invariant_of-self-else-is_far : goal.invariant_of-self-else-is_far
invariant_of-self-else-is_far c =
    let far = map far_list c.self.inside.far.items in
    let slots = c.self.inside.slots.slots in
    let v = c.args.variable in
    let lt = subst (λ (r : RoomyLists). c.args.place < length (items_at r.slots c.args.variable)) (sym c.self.view_is) c.requires in
    let within : v < length (map (slot_list far) slots) = items_within _ _ c.args.place lt in
    let s = c.get-slot.result in
    let at = slot_at far slots v s within c.get-slot.ensures in
    let not_far : c.get-slot.result.count ≢ 5 = (λ e. (let z : ⊥ = grind (arith, c.is_far.ensures.far.1 e, c.if-is_far.false) in z)) in
    let few = slot_few far slots v s at c.self.invariant not_far in
    rw c.set.ensures.slots
    (near_kept far slots v s c.swap_remove-else-is_far.new.self at c.self.invariant
    (omega (arith, c.swap_remove-else-is_far.ensures.count)))

pub returns-else-is_far-clause-slots : goal.returns-else-is_far-clause-slots
returns-else-is_far-clause-slots c =
    let far = map far_list c.self.inside.far.items in
    let slots = c.self.inside.slots.slots in
    let v = c.args.variable in
    let lt = subst (λ (r : RoomyLists). c.args.place < length (items_at r.slots c.args.variable)) (sym c.self.view_is) c.requires in
    let within : v < length (map (slot_list far) slots) = items_within _ _ c.args.place lt in
    let s = c.get-slot.result in
    let at = slot_at far slots v s within c.get-slot.ensures in
    let not_far : c.get-slot.result.count ≢ 5 = (λ e. (let z : ⊥ = grind (arith, c.is_far.ensures.far.1 e, c.if-is_far.false) in z)) in
    let few = slot_few far slots v s at c.self.invariant not_far in
    rw (c.set.ensures.slots, ← c.self.view_is)
    (near_with far slots v s c.swap_remove-else-is_far.new.self at c.self.invariant
    (omega (arith, c.swap_remove-else-is_far.ensures.count)) few (λ (xs : List ℕ). swap_remove xs c.args.place 0)
    c.swap_remove-else-is_far.ensures.items)
