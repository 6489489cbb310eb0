use Rattle.std.proofs.Common.{◌≡◌, ◌≢◌, ◌<◌, ℕ, List, ◌∷◌, ◌++◌, [], get_or, length, map, subst, sym, arith}
use Rattle.std.proofs.lemmas.List.{length-map}
use Rattle.aig_base.specs.Readers.{GateList}
use Rattle.aig_base.specs.state.GateLists.{RoomyLists, far_list, near_list, no_gates, slot_list}
use Rattle.aig_base.specs.state.ReaderSlots.{FitsOneReader, HasRoom, no_list}
use Rattle.aig_base.proofs.fan_outs.GateListLemmas.{list_was, near_kept, near_view, near_with, slot_at, slot_few, slot_there}
use Rattle.aig_base.proofs.fan_outs.GateListLemmas.{place_within, written_kept, written_with}
use Rattle.aig_base.proofs.fan_outs.ReaderLists.{fits_within}
use Rattle.aig_base.proofs.readers.gate_lists.GateLists.push.Goals as goal

pub index_mut-requires : goal.index_mut-requires
index_mut-requires c =
    let far = map far_list c.self.inside.far.items in
    let slots = c.self.inside.slots.slots in
    let v = c.args.variable in
    let fits = subst (λ (r : RoomyLists). FitsOneReader r.slots c.args.variable) (sym c.self.view_is) c.requires in
    let within : v < length (map (slot_list far) slots) = fits_within _ _ fits in
    let s = c.get.result in
    let at = slot_at far slots v s within c.get.ensures in
    let five : s.count ≡ 5 = grind (arith, c.count-count.ensures s at, c.if-count-eq-FAR.true) in
    let lt = place_within far slots v s no_list at five c.self.invariant in
    omega (arith, lt, c.position.ensures, length-map c.self.inside.far.items far_list, c.self.inside.far.ok.0)

pub push_reserved-requires : goal.push_reserved-requires
push_reserved-requires c =
    let far = map far_list c.self.inside.far.items in
    let slots = c.self.inside.slots.slots in
    let v = c.args.variable in
    let fits = subst (λ (r : RoomyLists). FitsOneReader r.slots c.args.variable) (sym c.self.view_is) c.requires in
    let within : v < length (map (slot_list far) slots) = fits_within _ _ fits in
    let s = c.get.result in
    let at = slot_at far slots v s within c.get.ensures in
    let five : s.count ≡ 5 = grind (arith, c.count-count.ensures s at, c.if-count-eq-FAR.true) in
    let d = c.index_mut.result.now in
    let was = list_was c.self.inside.far.items slots v c.position.result s d d at five c.position.ensures c.index_mut.ensures.value c.self.invariant in
    let room : HasRoom (far_list d) = subst (λ (l : GateList). HasRoom l) was fits in
    (omega arith, room)

pub invariant_of-self : goal.invariant_of-self
invariant_of-self c =
    let far = map far_list c.self.inside.far.items in
    let slots = c.self.inside.slots.slots in
    let v = c.args.variable in
    let fits = subst (λ (r : RoomyLists). FitsOneReader r.slots c.args.variable) (sym c.self.view_is) c.requires in
    let within : v < length (map (slot_list far) slots) = fits_within _ _ fits in
    let s = c.get.result in
    let at = slot_at far slots v s within c.get.ensures in
    let five : s.count ≡ 5 = grind (arith, c.count-count.ensures s at, c.if-count-eq-FAR.true) in
    written_kept c.self.inside.far.items slots v c.position.result s c.index_mut.result.now
    c.push_reserved.new.self at five c.position.ensures c.index_mut.ensures.value
    c.self.invariant (omega (arith, c.push_reserved.ensures.capacity))

pub returns-then-count-eq-FAR-clause-slots : goal.returns-then-count-eq-FAR-clause-slots
returns-then-count-eq-FAR-clause-slots c =
    let far = map far_list c.self.inside.far.items in
    let slots = c.self.inside.slots.slots in
    let v = c.args.variable in
    let fits = subst (λ (r : RoomyLists). FitsOneReader r.slots c.args.variable) (sym c.self.view_is) c.requires in
    let within : v < length (map (slot_list far) slots) = fits_within _ _ fits in
    let s = c.get.result in
    let at = slot_at far slots v s within c.get.ensures in
    let five : s.count ≡ 5 = grind (arith, c.count-count.ensures s at, c.if-count-eq-FAR.true) in
    rw (← c.self.view_is)
    (written_with c.self.inside.far.items slots v c.position.result s c.index_mut.result.now
    c.push_reserved.new.self at five c.position.ensures c.index_mut.ensures.value
    c.self.invariant (λ (xs : List ℕ). xs ++ c.args.gate ∷ []) c.push_reserved.ensures.items
    c.push_reserved.ensures.capacity)

pub push_near-requires : goal.push_near-requires
push_near-requires c =
    let far = map far_list c.self.inside.far.items in
    let slots = c.self.inside.slots.slots in
    let v = c.args.variable in
    let fits = subst (λ (r : RoomyLists). FitsOneReader r.slots c.args.variable) (sym c.self.view_is) c.requires in
    let within : v < length (map (slot_list far) slots) = fits_within _ _ fits in
    let s = get_or slots v no_gates in
    let at = slot_there far slots v within in
    let count = c.count-count.ensures s at in
    let ne : s.count ≢ 5 = (λ e. (let z : ⊥ = grind (arith, count, e, c.if-count-eq-FAR.false) in z)) in
    let few = slot_few far slots v s at c.self.invariant ne in
    let room : HasRoom (near_list s) = subst (λ (l : GateList). HasRoom l) (near_view far slots v s at few) fits in
    record { slot = (s, at, sym count, omega (arith, room)) }

pub invariant_of-self-else-count-eq-FAR : goal.invariant_of-self-else-count-eq-FAR
invariant_of-self-else-count-eq-FAR c =
    let far = map far_list c.self.inside.far.items in
    let slots = c.self.inside.slots.slots in
    let v = c.args.variable in
    let fits = subst (λ (r : RoomyLists). FitsOneReader r.slots c.args.variable) (sym c.self.view_is) c.requires in
    let within : v < length (map (slot_list far) slots) = fits_within _ _ fits in
    let s = get_or slots v no_gates in
    let at = slot_there far slots v within in
    let count = c.count-count.ensures s at in
    let ne : s.count ≢ 5 = (λ e. (let z : ⊥ = grind (arith, count, e, c.if-count-eq-FAR.false) in z)) in
    let few = slot_few far slots v s at c.self.invariant ne in
    let (t, is, low, items) = c.push_near.ensures.slots s at in
    rw is (near_kept far slots v s t at c.self.invariant low)

pub returns-else-count-eq-FAR-clause-slots : goal.returns-else-count-eq-FAR-clause-slots
returns-else-count-eq-FAR-clause-slots c =
    let far = map far_list c.self.inside.far.items in
    let slots = c.self.inside.slots.slots in
    let v = c.args.variable in
    let fits = subst (λ (r : RoomyLists). FitsOneReader r.slots c.args.variable) (sym c.self.view_is) c.requires in
    let within : v < length (map (slot_list far) slots) = fits_within _ _ fits in
    let s = get_or slots v no_gates in
    let at = slot_there far slots v within in
    let count = c.count-count.ensures s at in
    let ne : s.count ≢ 5 = (λ e. (let z : ⊥ = grind (arith, count, e, c.if-count-eq-FAR.false) in z)) in
    let few = slot_few far slots v s at c.self.invariant ne in
    let (t, is, low, items) = c.push_near.ensures.slots s at in
    rw (is, ← c.self.view_is)
    (near_with far slots v s t at c.self.invariant low few (λ (xs : List ℕ). xs ++ c.args.gate ∷ []) items)
