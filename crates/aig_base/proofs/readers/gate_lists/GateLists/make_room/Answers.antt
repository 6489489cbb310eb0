use Rattle.std.proofs.Common.{◌<◌, ◌≤◌, get_or, length, length-take, map, OnErr, subst, sym, refl, ◌∙◌, arith}
use Rattle.std.proofs.lemmas.List.{length-map}
use Rattle.std.proofs.lemmas.Result.{on_ok_weaker}
use Rattle.aig_bytes.proofs.Results.{on_err}
use Rattle.aig_base.specs.Readers.{GateList}
use Rattle.aig_base.specs.state.GateLists.{RoomyLists, far_list, near_list, no_gates, slot_list}
use Rattle.aig_base.specs.state.ReaderSlots.{HasRoom, no_list}
use Rattle.aig_base.proofs.fan_outs.GateListLemmas.{gets_none, list_was, listed, moved_kept, moved_lists, moved_room}
use Rattle.aig_base.proofs.fan_outs.GateListLemmas.{slot_at, slot_few, vec_roomy, written_kept, written_list}
use Rattle.aig_base.proofs.fan_outs.GateListLemmas.{near_long, near_view, place_within, slot_there, written_room}
use Rattle.aig_base.proofs.fan_outs.ReaderLists.{fits_set}
use Rattle.aig_base.proofs.readers.gate_lists.GateLists.make_room.Goals as goal

pub double_full-requires : goal.double_full-requires
double_full-requires c =
    let far = map far_list c.self.inside.far.items in
    let slots = c.self.inside.slots.slots in
    let v = c.args.variable in
    let lt = subst (λ (r : RoomyLists). c.args.variable < length r.slots) (sym c.self.view_is) c.requires in
    let s = c.get-slot.result in
    let at = slot_at far slots v s lt c.get-slot.ensures in
    let count = c.is_far.ensures.far.0 c.if-is_far.true in
    vec_roomy c.self.inside.far.items slots v c.position.result s c.index_mut.result.now c.index_mut.result.now at count
    c.position.ensures c.index_mut.ensures.value c.self.invariant

pub invariant_of-self : goal.invariant_of-self
invariant_of-self c =
    let far = map far_list c.self.inside.far.items in
    let slots = c.self.inside.slots.slots in
    let v = c.args.variable in
    let lt = subst (λ (r : RoomyLists). c.args.variable < length r.slots) (sym c.self.view_is) c.requires in
    let s = c.get-slot.result in
    let at = slot_at far slots v s lt c.get-slot.ensures in
    let count = c.is_far.ensures.far.0 c.if-is_far.true in
    written_kept c.self.inside.far.items slots v c.position.result s c.index_mut.result.now
    c.double_full.new.list at count c.position.ensures c.index_mut.ensures.value c.self.invariant
    c.double_full.ensures.capacity

pub returns-then-is_far-clause-gets : goal.returns-then-is_far-clause-gets
returns-then-is_far-clause-gets c =
    let far = map far_list c.self.inside.far.items in
    let slots = c.self.inside.slots.slots in
    let v = c.args.variable in
    let lt = subst (λ (r : RoomyLists). c.args.variable < length r.slots) (sym c.self.view_is) c.requires in
    let s = c.get-slot.result in
    let at = slot_at far slots v s lt c.get-slot.ensures in
    let count = c.is_far.ensures.far.0 c.if-is_far.true in
    rw (← c.self.view_is)
    (written_room c.self.inside.far.items slots v c.position.result s c.index_mut.result.now
    c.double_full.new.list at count c.position.ensures c.index_mut.ensures.value c.self.invariant
    c.double_full.ensures.items c.double_full.ensures.capacity c.double_full.ensures.doubled)

pub returns-then-is_far-clause-ok : goal.returns-then-is_far-clause-ok
returns-then-is_far-clause-ok c =
    let far = map far_list c.self.inside.far.items in
    let slots = c.self.inside.slots.slots in
    let v = c.args.variable in
    let lt = subst (λ (r : RoomyLists). c.args.variable < length r.slots) (sym c.self.view_is) c.requires in
    let s = c.get-slot.result in
    let at = slot_at far slots v s lt c.get-slot.ensures in
    let count = c.is_far.ensures.far.0 c.if-is_far.true in
    on_ok_weaker c.double_full.result
    (λ room. fits_set (map (slot_list far) slots) _ v (far_list c.double_full.new.list) lt
    (written_list c.self.inside.far.items slots v c.position.result s c.index_mut.result.now
    c.double_full.new.list at count c.position.ensures c.index_mut.ensures.value c.self.invariant)
    (omega (arith, room))) c.double_full.ensures.ok

pub returns-then-is_far-clause-refused : goal.returns-then-is_far-clause-refused
returns-then-is_far-clause-refused c =
    let far = map far_list c.self.inside.far.items in
    let slots = c.self.inside.slots.slots in
    let v = c.args.variable in
    let lt = subst (λ (r : RoomyLists). c.args.variable < length r.slots) (sym c.self.view_is) c.requires in
    let s = c.get-slot.result in
    let at = slot_at far slots v s lt c.get-slot.ensures in
    let count = c.is_far.ensures.far.0 c.if-is_far.true in
    rw (← c.self.view_is)
    (subst (λ (l : GateList). OnErr c.double_full.result (4 ≤ length l.items)) (sym (list_was c.self.inside.far.items slots v c.position.result s c.index_mut.result.now
    c.double_full.new.list at count c.position.ensures c.index_mut.ensures.value c.self.invariant))
    c.double_full.ensures.refused)

pub returns-then-count-clause-gets : goal.returns-then-count-clause-gets
returns-then-count-clause-gets c = gets_none c.args.self.now.slots c.args.variable

pub returns-in_err-moved-clause-gets : goal.returns-in_err-moved-clause-gets
returns-in_err-moved-clause-gets c =
    rw (c.in_err-moved.ensures.kept, ← c.self.view_is) (gets_none _ c.args.variable)

pub set-requires : goal.set-requires
set-requires c =
    let far = map far_list c.self.inside.far.items in
    let slots = c.self.inside.slots.slots in
    let lt = subst (λ (r : RoomyLists). c.args.variable < length r.slots) (sym c.self.view_is) c.requires in
    let size = length-map slots (slot_list far) in
    omega (arith, lt)

pub invariant_of-self-2 : goal.invariant_of-self-2
invariant_of-self-2 c =
    let far = map far_list c.self.inside.far.items in
    let slots = c.self.inside.slots.slots in
    let v = c.args.variable in
    let lt = subst (λ (r : RoomyLists). c.args.variable < length r.slots) (sym c.self.view_is) c.requires in
    let s = c.get-slot.result in
    let t = c.in_ok-moved.moved in
    let at = slot_at far slots v s lt c.get-slot.ensures in
    let full : 4 ≤ s.count = omega (arith, c.count.ensures s at, c.if-count.false) in
    let few = slot_few far slots v s at c.self.invariant
    (λ e. (let z : ⊥ = grind (arith, c.is_far.ensures.far.1 e, c.if-is_far.false) in z)) in
    let last = c.in_ok-moved.ensures.slot.1 ∙ sym (length-map c.self.inside.far.items far_list) in
    let new = listed s.gates 8 in
    rw (c.in_ok-moved.ensures.far, c.set.ensures.slots)
    (moved_kept far slots v s t at c.self.invariant new c.in_ok-moved.ensures.slot.0 last (omega arith))

pub returns-clause-gets : goal.returns-clause-gets
returns-clause-gets c =
    let far = map far_list c.self.inside.far.items in
    let slots = c.self.inside.slots.slots in
    let v = c.args.variable in
    let lt = subst (λ (r : RoomyLists). c.args.variable < length r.slots) (sym c.self.view_is) c.requires in
    let s = c.get-slot.result in
    let t = c.in_ok-moved.moved in
    let at = slot_at far slots v s lt c.get-slot.ensures in
    let full : 4 ≤ s.count = omega (arith, c.count.ensures s at, c.if-count.false) in
    let few = slot_few far slots v s at c.self.invariant
    (λ e. (let z : ⊥ = grind (arith, c.is_far.ensures.far.1 e, c.if-is_far.false) in z)) in
    let last = c.in_ok-moved.ensures.slot.1 ∙ sym (length-map c.self.inside.far.items far_list) in
    let new = listed s.gates 8 in
    rw (c.in_ok-moved.ensures.far, c.set.ensures.slots, ← c.self.view_is)
    (moved_room far slots v s t at c.self.invariant new c.in_ok-moved.ensures.slot.0 last (omega arith) (omega arith) c.is_far.ensures.places refl)

pub returns-clause-ok : goal.returns-clause-ok
returns-clause-ok c =
    let far = map far_list c.self.inside.far.items in
    let slots = c.self.inside.slots.slots in
    let v = c.args.variable in
    let lt = subst (λ (r : RoomyLists). c.args.variable < length r.slots) (sym c.self.view_is) c.requires in
    let s = c.get-slot.result in
    let t = c.in_ok-moved.moved in
    let at = slot_at far slots v s lt c.get-slot.ensures in
    let full : 4 ≤ s.count = omega (arith, c.count.ensures s at, c.if-count.false) in
    let few = slot_few far slots v s at c.self.invariant
    (λ e. (let z : ⊥ = grind (arith, c.is_far.ensures.far.1 e, c.if-is_far.false) in z)) in
    let last = c.in_ok-moved.ensures.slot.1 ∙ sym (length-map c.self.inside.far.items far_list) in
    let new = listed s.gates 8 in
    let four = c.is_far.ensures.places in
    rw (c.in_ok-moved.ensures.far, c.set.ensures.slots)
    (fits_set (map (slot_list far) slots) _ v new lt (moved_lists far slots v s t at c.self.invariant new c.in_ok-moved.ensures.slot.0 last (omega arith))
    (omega arith))

pub returns-then-count-clause-ok : goal.returns-then-count-clause-ok
returns-then-count-clause-ok c =
    let far = map far_list c.self.inside.far.items in
    let slots = c.self.inside.slots.slots in
    let v = c.args.variable in
    let lt = subst (λ (r : RoomyLists). c.args.variable < length r.slots) (sym c.self.view_is) c.requires in
    let s = get_or slots v no_gates in
    let at = slot_there far slots v lt in
    let count = c.count.ensures s at in
    let few : s.count ≤ 4 = omega (arith, count, c.if-count.true) in
    let short = length-take s.count s.gates in
    let room : HasRoom (near_list s) = omega (arith, short, count, c.if-count.true) in
    rw (← c.self.view_is) (subst (λ (l : GateList). HasRoom l) (sym (near_view far slots v s at few)) room)

pub index_mut-requires : goal.index_mut-requires
index_mut-requires c =
    let far = map far_list c.self.inside.far.items in
    let slots = c.self.inside.slots.slots in
    let v = c.args.variable in
    let lt = subst (λ (r : RoomyLists). c.args.variable < length r.slots) (sym c.self.view_is) c.requires in
    let s = c.get-slot.result in
    let at = slot_at far slots v s lt c.get-slot.ensures in
    let within = place_within far slots v s no_list at (c.is_far.ensures.far.0 c.if-is_far.true) c.self.invariant in
    omega (arith, within, c.position.ensures, length-map c.self.inside.far.items far_list, c.self.inside.far.ok.0)

pub returns-in_err-moved-clause-refused : goal.returns-in_err-moved-clause-refused
returns-in_err-moved-clause-refused c =
    let far = map far_list c.self.inside.far.items in
    let slots = c.self.inside.slots.slots in
    let v = c.args.variable in
    let lt = subst (λ (r : RoomyLists). c.args.variable < length r.slots) (sym c.self.view_is) c.requires in
    let s = c.get-slot.result in
    let at = slot_at far slots v s lt c.get-slot.ensures in
    let full : 4 ≤ s.count = omega (arith, c.count.ensures s at, c.if-count.false) in
    let few = slot_few far slots v s at c.self.invariant
    (λ e. (let z : ⊥ = grind (arith, c.is_far.ensures.far.1 e, c.if-is_far.false) in z)) in
    let long = near_long s few c.is_far.ensures.places in
    let four : 4 ≤ length (near_list s).items = omega (arith, long, full) in
    rw (← c.self.view_is)
    (on_err c.from_residual.result (subst (λ (l : GateList). 4 ≤ length l.items) (sym (near_view far slots v s at few)) four))
