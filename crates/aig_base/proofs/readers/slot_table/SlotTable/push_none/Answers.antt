use Rattle.std.proofs.Common.{◌++◌, ◌∷◌, [], ◌∙◌, ap, arith}
use Rattle.aig_base.specs.state.GateLists.{Slots, no_gates}
use Rattle.aig_base.proofs.fan_outs.SlotTables.{slots_length, slots_pushed}
use Rattle.aig_base.proofs.readers.slot_table.SlotTable.push_none.Goals as goal

pub push_reserved-requires : goal.push_reserved-requires
push_reserved-requires c =
    let room = rw (← c.self.view_is) at c.requires in
    omega (arith, room, slots_length c.self.inside.counts.items c.self.inside.gates.items c.self.invariant)

pub push_reserved-requires-2 : goal.push_reserved-requires-2
push_reserved-requires-2 c =
    let room = rw (← c.self.view_is) at c.requires in
    omega (arith, room, slots_length c.self.inside.counts.items c.self.inside.gates.items c.self.invariant, c.self.invariant)

pub returns-clause-slots : goal.returns-clause-slots
returns-clause-slots c =
    rw (c.push_reserved.ensures.items, c.push_reserved-2.ensures.items)
    (slots_pushed c.self.inside.counts.items c.self.inside.gates.items 0 _ c.self.invariant)
    ∙ ap (λ (t : Slots). t.slots ++ no_gates ∷ []) c.self.view_is
